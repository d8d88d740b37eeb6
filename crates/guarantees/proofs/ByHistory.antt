-- What a peer that is tracked by a history sees of any run is what the receiver of its calls alone makes of them; so two runs with the same
-- calls of it show it the same. Over any calls that peers make.
use Prim.Native.Nat.{ℕ}
use borrow.Author.Tests.{eq-eqb, ne_eqb}
use lib.Dec.{eqb}
use mathlib.Core.Bool.{true, false}
use mathlib.Core.List.{List, [], ◌∷◌}
use mathlib.Core.Path.{◌≡◌, refl, sym, ap, ap₂, ◌∙◌, subst}
use native.Mathlib.Decide.{ℕ_discrete}
use Rattle.laws.proofs.Choosing.{pick_false, pick_true}
use Rattle.guarantees.specs.Runs.{Calling, RequestWith, SeesTheSame, alone, calls_of, observe}

-- peer p is as a history has it, by T: a call of its own shows it what the history demands and leaves it as the history with that call has it,
-- and another's call leaves it as it is
pub record Tracked (s : Calling) (p : ℕ) {H : Type 0} (demanded : H → s.Compared → s.Sight) (entered : H → s.Compared → H)
    (T : s.World → s.Noted → H → Type 0) : Type 0 where
  pub shows : (w : s.World) (noted : s.Noted) (l : H) (c : s.Lent) → T w noted l → s.sight w p noted c ≡ demanded l (s.compared c)
  pub own : (w : s.World) (noted : s.Noted) (l : H) (c : s.Lent) → T w noted l
      → T (s.after w p c) (s.noting w p noted c) (entered l (s.compared c))
  pub others : (w : s.World) (noted : s.Noted) (l : H) (q : ℕ) (c : s.Lent) → (q ≡ p → ⊥) → T w noted l → T (s.after w q c) noted l

module _ {s : Calling} {p : ℕ} {H : Type 0} {demanded : H → s.Compared → s.Sight} {entered : H → s.Compared → H}
    {T : s.World → s.Noted → H → Type 0} (k : Tracked s p demanded entered T) where
  abbrev Rest : List (RequestWith s.Lent) → Type 0
  Rest qs = (w : s.World) (noted : s.Noted) (l : H) → T w noted l → observe s p w noted qs ≡ alone demanded entered l (calls_of s p qs)

  pub by_history : (qs : List (RequestWith s.Lent)) → Rest qs
  unfolding observe calls_of alone
  by_history [] w noted l t = refl
  by_history (q ∷ qs) w noted l t = go (ℕ_discrete q.peer p) (by_history qs)
    where
      c : s.Lent
      c = q.call

      go : Dec (q.peer ≡ p) → Rest qs → observe s p w noted (q ∷ qs) ≡ alone demanded entered l (calls_of s p (q ∷ qs))
      go (yes e) rest =
          let is : eqb q.peer p ≡ true = eq-eqb q.peer p e in
          pick_true _ _ is
          ∙ ap₂ (λ (x : s.Sight) (xs : List s.Sight). x ∷ xs)
          (subst (λ (n : ℕ). s.sight w n noted c ≡ demanded l (s.compared c)) (sym e) (k.shows w noted l c t))
          (rest _ _ _ (subst (λ (n : ℕ). T (s.after w n c) (s.noting w n noted c) (entered l (s.compared c))) (sym e) (k.own w noted l c t)))
          ∙ ap (alone demanded entered l) (sym (pick_true _ _ is))
      go (no e) rest =
          let not : eqb q.peer p ≡ false = ne_eqb q.peer p e in
          pick_false _ _ not ∙ rest _ noted l (k.others w noted l q.peer c e t) ∙ ap (alone demanded entered l) (sym (pick_false _ _ not))

  pub sees_the_same : (noted : s.Noted) (l : H) (w₁ w₂ : s.World) → T w₁ noted l → T w₂ noted l → SeesTheSame s p noted w₁ w₂
  sees_the_same noted l w₁ w₂ t₁ t₂ calls₁ calls₂ same =
      by_history calls₁ w₁ noted l t₁ ∙ ap (alone demanded entered l) same ∙ sym (by_history calls₂ w₂ noted l t₂)
