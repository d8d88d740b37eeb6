-- What is said by going through a list of checks is said of the first that fails.
use Rattle.std.proofs.Common.{◌≡◌, ℕ, zero, suc, ◌<◌, ◌⊎◌, List, [], ◌∷◌, ◌++◌, map, length, get_or, sym, refl, ap, ◌∙◌, subst, inl, inr, ⊎_elim, arith}
use mathlib.Core.List.Memᴰ
use mathlib.Core.List.{Memᴰ}
use Rattle.peer.specs.Firsts.{FirstToFail, NoneFails, RefusedByFirst}
use Rattle.peer.specs.Says.{Saying, refused, say}

module _ {C : Type 0} (fails : C → Type 0) (number : C → ℕ) where
  -- check by check: one fails and its number is said, or it does not and the rest is gone through; at the end nothing is refused
  abbrev pub Gone : List C → Saying → Type 0
  Gone [] s = s.word ≡ refused → ⊥
  Gone (c ∷ cs) s = (fails c × (s ≡ say refused (number c ∷ []))) ⊎ ((fails c → ⊥) × Gone cs s)

  said_refused : {s : Saying} {k : ℕ} → s ≡ say refused (k ∷ []) → s.word ≡ refused
  said_refused e = ap (λ (x : Saying). x.word) e

  same_number : {s : Saying} {j k : ℕ} → s ≡ say refused (j ∷ []) → s ≡ say refused (k ∷ []) → j ≡ k
  same_number {s} {j} {k} a b =
      let lists : (j ∷ []) ≡ (k ∷ []) = ap (λ (x : Saying). x.numbers) (sym a ∙ b) in
      cc

  later : (b : C) (cs : List C) → (fails b → ⊥) → (c : C) → FirstToFail fails cs c → FirstToFail fails (b ∷ cs) c
  later b cs n c f =
      record {
        before = b ∷ f.before;
        after = f.after;
        list = ap (λ (l : List C). b ∷ l) f.list;
        failed = f.failed;
        earlier = λ x m. ⊎_elim (λ e y. n (subst fails e y)) (λ m. f.earlier x m) (Memᴰ.cases_cons m);
      }

  -- it is the same for all that is no refusal
  pub gone_unrefused : (cs : List C) (s t : Saying) → (s.word ≡ refused → ⊥) → (t.word ≡ refused → ⊥) → Gone cs s → Gone cs t
  gone_unrefused [] s t n m g = m
  gone_unrefused (c ∷ cs) s t n m (inl (f, e)) = absurd (n (said_refused e))
  gone_unrefused (c ∷ cs) s t n m (inr (x, g)) = inr (x, gone_unrefused cs s t n m g)

  first_given : (cs : List C) (s : Saying) → Gone cs s → (k : ℕ) → s ≡ say refused (k ∷ []) → (c : C) × FirstToFail fails cs c × (number c ≡ k)
  first_given [] s g k e = absurd (g (said_refused e))
  first_given (c ∷ cs) s (inl (f, x)) k e =
      (c, record { before = []; after = cs; list = refl; failed = f; earlier = λ b m y. Memᴰ.not-nil m }, same_number x e)
  first_given (c ∷ cs) s (inr (n, g)) k e = let (d, f, x) = first_given cs s g k e in (d, later c cs n d f, x)

  given_first : (cs : List C) (s : Saying) → Gone cs s → (c : C) (before after : List C) → cs ≡ before ++ (c ∷ after) → fails c
      → ((b : C) → Memᴰ b before → fails b → ⊥) → s ≡ say refused (number c ∷ [])
  given_first [] s g c [] after e f n = let z : ◌≡◌ {A = ℕ} 0 1 = cc in absurd (omega arith)
  given_first [] s g c (b ∷ bs) after e f n = let z : ◌≡◌ {A = ℕ} 0 1 = cc in absurd (omega arith)
  given_first (d ∷ cs) s (inl (x, y)) c [] after e f n =
      let same : d ≡ c = cc in
      y ∙ ap (λ (z : C). say refused (number z ∷ [])) same
  given_first (d ∷ cs) s (inl (x, y)) c (b ∷ bs) after e f n =
      let same : d ≡ b = cc in
      absurd (n b (Memᴰ.head refl) (subst fails same x))
  given_first (d ∷ cs) s (inr (x, g)) c [] after e f n =
      let same : c ≡ d = cc in
      absurd (x (subst fails same f))
  given_first (d ∷ cs) s (inr (x, g)) c (b ∷ bs) after e f n =
      let rest : cs ≡ bs ++ (c ∷ after) = cc in
      given_first cs s g c bs after rest f (λ z m. n z (Memᴰ.tail m))

  none_given : (cs : List C) (s : Saying) → Gone cs s → NoneFails fails cs → s.word ≡ refused → ⊥
  none_given [] s g n e = g e
  none_given (c ∷ cs) s (inl (f, x)) n e = n c (Memᴰ.head refl) f
  none_given (c ∷ cs) s (inr (x, g)) n e = none_given cs s g (λ b m. n b (Memᴰ.tail m)) e

  given_none : (cs : List C) (s : Saying) → Gone cs s → (s.word ≡ refused → ⊥) → NoneFails fails cs
  given_none [] s g n c m f = Memᴰ.not-nil m
  given_none (c ∷ cs) s (inl (f, x)) n b m y = n (said_refused x)
  given_none (c ∷ cs) s (inr (x, g)) n b m y = ⊎_elim (λ e. x (subst fails e y)) (λ r. given_none cs s g n b r y) (Memᴰ.cases_cons m)

  pub gone_refused : (cs : List C) (s : Saying) → Gone cs s → RefusedByFirst fails number cs s
  gone_refused cs s g =
      record {
        given = λ k. (
          first_given cs s g k,
          λ w. given_first cs s g w.0 w.1.before w.1.after w.1.list w.1.failed w.1.earlier ∙ ap (λ (n : ℕ). say refused (n ∷ [])) w.2,
        );
        passed = (given_none cs s g, none_given cs s g);
      }

  -- a list of which the check at place i is the first to fail, with any checks behind it
  pub gone_at : {D : Type 0} (f : D → C) (ds : List D) (cs : List C) (d : D) (s : Saying) (i : ℕ) → i < length ds → fails (f (get_or ds i d))
      → ((j : ℕ) → j < i → fails (f (get_or ds j d)) → ⊥) → s ≡ say refused (number (f (get_or ds i d)) ∷ []) → Gone (map f ds ++ cs) s
  gone_at f [] cs d s i l x n e = absurd (omega arith)
  gone_at f (b ∷ ds) cs d s zero l x n e = inl (x, e)
  gone_at f (b ∷ ds) cs d s (suc i) l x n e = inr (n 0 (omega arith), gone_at f ds cs d s i (omega arith) x (λ j h. n (suc j) (omega arith)) e)

  -- a list of which none fails, and what stands behind it
  pub gone_past : {D : Type 0} (f : D → C) (ds : List D) (cs : List C) (s : Saying) → ((d : D) → fails (f d) → ⊥) → Gone cs s → Gone (map f ds ++ cs) s
  gone_past f [] cs s n g = g
  gone_past f (d ∷ ds) cs s n g = inr (n d, gone_past f ds cs s n g)

-- checks that are others' checks
pub gone_as : {C D : Type 0} (fails : C → Type 0) (number : C → ℕ) (f : D → C) (ds : List D) (s : Saying)
    → Gone (λ d. fails (f d)) (λ d. number (f d)) ds s → Gone fails number (map f ds) s
gone_as fails number f [] s g = g
gone_as fails number f (d ∷ ds) s (inl w) = inl w
gone_as fails number f (d ∷ ds) s (inr (n, g)) = inr (n, gone_as fails number f ds s g)
