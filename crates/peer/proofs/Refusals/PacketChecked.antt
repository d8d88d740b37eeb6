-- A packet that was read is refused by the first of the judgement's checks that fails: each way through its tests, over any view of the peer.
use Rattle.std.proofs.Common.{◌≡◌, ℕ, ◌+◌, ◌^◌, ◌<◌, ◌≤◌, Bool, true, false, ◌⊎◌, ◌↔◌, List, [], ◌∷◌, get_or, sym, refl, ap, ◌∙◌, subst, inl, inr, ⊎_elim, true≢false, arith}
use Rattle.bitmap.specs.Offsets.{some_of}
use Rattle.protocol.specs.ByType.{tagged_told}
use Rattle.protocol.specs.Sentences.{bit_of}
use Rattle.peer.specs.Checks.{Ahead, CallCheck, Differs, CallFails, FitsIn, Long, NotOpen, Repeats, data_beyond, data_late, data_repeats, judged_checks, rtm_differs, rtm_early, rtm_late, rtm_repeats, rtm_unmatched}
use Rattle.peer.specs.Sentences.{AheadIsTheDistance, LongIs68And69, OtherMessageDiffers, PlainFitsPlain, SameMessageIsAllEqual, SomeOfIsSomeOffset, TaggedFitsOutsideIgnore}
use Rattle.peer.specs.Incomings.{is_long}
use Rattle.peer.specs.Matching.{ahead, fits, same_message}
use Rattle.peer.specs.Says.{refused, said, say}
use Rattle.peer.specs.PacketBytes.{RtmIn, id_in, type_in, type_of, type_said}
use Rattle.peer.specs.Plain.{waiting}
use Rattle.peer.specs.View.{OpenIn, View}
use Rattle.peer.specs.declared.types.Answer.{Answer}
use Rattle.peer.specs.declared.types.Inbound.{Inbound}
use Rattle.peer.specs.declared.types.Incoming.{Incoming}
use Rattle.peer.specs.declared.types.Message.{Message}
use Rattle.peer.specs.declared.types.Receive.{Receive}
use Rattle.peer.proofs.Sentences.BytesHold.{Says}
use Rattle.peer.proofs.Sentences.OffsetsHold.{some_of_is_some_offset}
use Rattle.peer.proofs.Refusals.PostChecked.{GoneFor, Unrefused}
use Rattle.peer.proofs.Sentences.SentencesHold.{ahead_is_the_distance, long_is_68_and_69, other_message_differs, plain_fits_plain, same_message_is_all_equal, tagged_fits_outside_ignore}
use Rattle.wire.proofs.Laws.{le_at_fits}

-- one message alone is open under the id
pub record Sole (v : View) (id i : ℕ) (o : Inbound) : Type 0 where
  pub here : OpenIn v id i o
  pub only : (j : ℕ) (m : Inbound) → OpenIn v id j m → (j ≡ i) × (m ≡ o)

-- ---- the tests in words

long_words : (m : Message) → (is_long m.shape ≡ true) ↔ Long m
unfolding LongIs68And69
long_words m = long_is_68_and_69 m.shape m.tagged

module _ (v : View) (bs : List ℕ) (h : Incoming) (s : Says bs h) where
  differs_words : RtmIn bs → (m : Message) → same_message m h ≡ false → Differs bs m
  unfolding OtherMessageDiffers
  differs_words w m x = go ((other_message_differs m h).0 x)
    where
      go : (type_said h ≡ type_of m → ⊥) ⊎ ((h.length ≡ m.length → ⊥) ⊎ ((h.tag ≡ m.tag → ⊥) ⊎ ((type_said h ≡ 66 → ⊥) × (type_said h ≡ 67 → ⊥)))) → Differs bs m
      go (inl n) = inl (λ y. n (s.kind ∙ y))
      go (inr (inl n)) = inr (inl (λ y. n (s.length w ∙ y)))
      go (inr (inr (inl n))) = inr (inr (inl (λ y. n (s.tag ∙ y))))
      go (inr (inr (inr (n, m)))) = inr (inr (inr (λ y. n (s.kind ∙ y), λ y. m (s.kind ∙ y))))

  same_words : RtmIn bs → (m : Message) → same_message m h ≡ true → Differs bs m → ⊥
  unfolding SameMessageIsAllEqual
  same_words w m x d = go ((same_message_is_all_equal m h).0 x) d
    where
      go : ((type_said h ≡ 66) ⊎ (type_said h ≡ 67)) × (type_said h ≡ type_of m) × (h.length ≡ m.length) × (h.tag ≡ m.tag) → Differs bs m → ⊥
      go e (inl n) = n (sym s.kind ∙ e.1)
      go e (inr (inl n)) = n (sym (s.length w) ∙ e.2)
      go e (inr (inr (inl n))) = n (sym s.tag ∙ e.3)
      go e (inr (inr (inr n))) = ⊎_elim (λ y. n.0 (sym s.kind ∙ y)) (λ y. n.1 (sym s.kind ∙ y)) e.0

  repeats_words : (i : ℕ) → (some_of (v.taken i) h.offset h.size ≡ true) ↔ Repeats v bs i
  unfolding SomeOfIsSomeOffset
  repeats_words i =
      let w = some_of_is_some_offset (v.taken i) h.offset h.size in (
        λ e. let (x, a, b, t) = w.0 e in (x, omega (arith, s.offset), omega (arith, s.offset, s.size), t),
        λ r. let (x, a, b, t) = r in w.1 (x, omega (arith, s.offset), omega (arith, s.offset, s.size), t),
      )

  pub fits_words : (r : Receive) → (fits h r ≡ true) ↔ FitsIn bs r
  unfolding PlainFitsPlain TaggedFitsOutsideIgnore
  fits_words r = (given (tagged_told (type_in bs)) refl, asked)
    where
      Outside : ℕ → Type 0
      Outside n = (k : ℕ) → bit_of r.ignore k ≡ 0 → bit_of n k ≡ bit_of r.tag k

      given : (t : Bool) → tagged_told (type_in bs) ≡ t → fits h r ≡ true → FitsIn bs r
      given false e x = inl (e, (plain_fits_plain h r (s.tagged ∙ e)).0 x)
      given true e x =
          let (t, w) = (tagged_fits_outside_ignore h r (s.tagged ∙ e)).0 x in
          inr (e, t, subst Outside s.tag w)

      asked : FitsIn bs r → fits h r ≡ true
      asked (inl (e, x)) = (plain_fits_plain h r (s.tagged ∙ e)).1 x
      asked (inr (e, t, w)) =
          (tagged_fits_outside_ignore h r (s.tagged ∙ e)).1 (t, subst Outside (sym s.tag) w)

-- ---- each way through the tests

module _ (area limit : ℕ) (v : View) (bs : List ℕ) (h : Incoming) (s : Says bs h) (a : Answer) where
  abbrev G : List CallCheck → Type 0
  G cs = GoneFor area limit v cs a

  abbrev Refuses : ℕ → Type 0
  Refuses k = said a ≡ say refused (k ∷ [])

  -- an RTM's data checks do not fail, and CTSDATA's RTM checks do not
  past_data : RtmIn bs → Unrefused a → G (data_late bs ∷ data_beyond bs ∷ data_repeats bs ∷ [])
  past_data w u = inr (λ x. omega (arith, w.0, x.0), inr (λ x. omega (arith, w.0, x.0), inr (λ x. omega (arith, w.0, x.0), u)))

  past_rtm : type_in bs ≡ 4 → G (data_late bs ∷ data_beyond bs ∷ data_repeats bs ∷ []) → G (judged_checks bs)
  past_rtm e g = inr (λ x. no x.0, inr (λ x. no x.0, inr (λ x. no x.0, inr (λ x. no x.0, inr (λ x. no x.0, g)))))
    where
      no : RtmIn bs → ⊥
      no w = omega (arith, w.0)

  -- "RTMs: if open, 14, 16"
  module _ (w : RtmIn bs) (i : ℕ) (o : Inbound) (sole : Sole v (id_in bs) i o) where
    pub open_differs : same_message o.message h ≡ false → Refuses 14 → G (judged_checks bs)
    open_differs x e = inl ((w, (i, o, sole.here, differs_words v bs h s w o.message x)), e)

    module _ (x : same_message o.message h ≡ true) where
      not_other : CallFails area limit v (rtm_differs bs) → ⊥
      not_other (r, (j, m, y, d)) = same_words v bs h s w o.message x (subst (λ (n : Inbound). Differs bs n.message) (sole.only j m y).1 d)

      pub open_repeats : some_of (v.taken i) h.offset h.size ≡ true → Refuses 16 → G (judged_checks bs)
      open_repeats y e = inr (not_other, inl ((w, (i, o, sole.here, (repeats_words v bs h s i).0 y)), e))

      pub open_more : some_of (v.taken i) h.offset h.size ≡ false → Unrefused a → G (judged_checks bs)
      open_more y u = inr (not_other, inr (fresh, inr (λ z. z.1 i o sole.here, inr (λ z. z.1 i o sole.here, inr (λ z. z.1 i o sole.here, past_data w u)))))
        where
          fresh : CallFails area limit v (rtm_repeats bs) → ⊥
          fresh (r, (j, m, z, t)) = true≢false (sym ((repeats_words v bs h s i).1 (subst (Repeats v bs) (sole.only j m z).0 t)) ∙ y)

  -- "if not open, 15, 12, 13"
  module _ (w : RtmIn bs) (n : NotOpen v bs) (small : v.next < 2 ^ 32) (bytes : (i : ℕ) → get_or bs i 0 < 256) where
    d : ℕ
    d = ahead h.id v.next

    distance : Ahead v bs d × ((e : ℕ) → Ahead v bs e → e ≡ d)
    unfolding AheadIsTheDistance d
    distance =
        let id : h.id < 2 ^ 32 = subst (λ (k : ℕ). k < 2 ^ 32) (sym s.id) (le_at_fits 4 bs 4 bytes) in
        let (l, m, u) = ahead_is_the_distance h.id v.next id small in
        ((l, m ∙ s.id), λ e x. u e x.0 (x.1 ∙ sym s.id))

    past_open : G (rtm_late bs ∷ rtm_early bs ∷ rtm_unmatched bs ∷ data_late bs ∷ data_beyond bs ∷ data_repeats bs ∷ []) → G (judged_checks bs)
    past_open g = inr (λ x. none_open x.1, inr (λ x. none_open x.1, g))
      where
        none_open : {A : ℕ → Inbound → Type 0} → ((i : ℕ) × (o : Inbound) × OpenIn v (id_in bs) i o × A i o) → ⊥
        none_open (i, o, x, y) = n i o x

    pub new_late : 2 ^ 31 ≤ ahead h.id v.next → Refuses 15 → G (judged_checks bs)
    unfolding d
    new_late l e = past_open (inl ((w, n, (d, distance.0, l)), e))

    module _ (l : ahead h.id v.next < 2 ^ 31) where
      not_late : CallFails area limit v (rtm_late bs) → ⊥
      unfolding d
      not_late x = let (k, y, m) = x.2 in omega (arith, distance.1 k y, m, l)

      pub new_early : 1 ≤ ahead h.id v.next → Refuses 12 → G (judged_checks bs)
      unfolding d
      new_early m e = past_open (inr (not_late, inl ((w, n, (d, distance.0, m, l)), e)))

      module _ (z : ahead h.id v.next ≡ 0) where
        not_early : CallFails area limit v (rtm_early bs) → ⊥
        unfolding d
        not_early x = let (k, y, m, t) = x.2 in omega (arith, distance.1 k y, m, z)

        pub new_unfit : ((j : ℕ) (r : Receive) → v.role j ≡ waiting r → fits h r ≡ true → ⊥) → Refuses 13 → G (judged_checks bs)
        unfolding d
        new_unfit u e =
            past_open (inr (not_late, inr (not_early, inl ((w, n, subst (Ahead v bs) z distance.0, λ j r x f. u j r x ((fits_words v bs h s r).1 f)), e))))

        pub new_fits : (j : ℕ) (r : Receive) → v.role j ≡ waiting r → fits h r ≡ true → Unrefused a → G (judged_checks bs)
        new_fits j r x f u =
            past_open (inr (not_late, inr (not_early, inr (λ y. y.3 j r x ((fits_words v bs h s r).0 f), past_data w u))))

  -- "CTSDATA: 15, 17, 16"
  module _ (t : type_in bs ≡ 4) where
    pub data_unopened : NotOpen v bs → Refuses 15 → G (judged_checks bs)
    data_unopened n e = past_rtm t (inl ((t, λ i o x y. n i o x), e))

    module _ (i : ℕ) (o : Inbound) (sole : Sole v (id_in bs) i o) where
      pub data_short : is_long o.message.shape ≡ false → Refuses 15 → G (judged_checks bs)
      data_short x e =
          past_rtm t (inl (
            (
              t,
              λ j m y z.
                  true≢false (sym ((long_words o.message).1 (subst (λ (q : Inbound). Long q.message) (sole.only j m y).1 z)) ∙ x),
            ),
            e,
          ))

      module _ (long : is_long o.message.shape ≡ true) where
        is_long_lem : Long o.message
        is_long_lem = (long_words o.message).0 long

        found : CallFails area limit v (data_late bs) → ⊥
        found x = x.1 i o sole.here is_long_lem

        pub data_beyond_lem : o.message.granted < h.offset + h.size → Refuses 17 → G (judged_checks bs)
        data_beyond_lem l e = past_rtm t (inr (found, inl ((t, (i, o, sole.here, is_long_lem, omega (arith, s.offset, s.size, l))), e)))

        module _ (l : h.offset + h.size ≤ o.message.granted) where
          inside : CallFails area limit v (data_beyond bs) → ⊥
          inside (k, (j, m, x, y, z)) = omega (arith, s.offset, s.size, l, ap (λ (q : Inbound). q.message.granted) (sole.only j m x).1)

          pub data_repeats_lem : some_of (v.taken i) h.offset h.size ≡ true → Refuses 16 → G (judged_checks bs)
          data_repeats_lem x e = past_rtm t (inr (found, inr (inside, inl ((t, (i, o, sole.here, is_long_lem, (repeats_words v bs h s i).0 x)), e))))

          pub data_more : some_of (v.taken i) h.offset h.size ≡ false → Unrefused a → G (judged_checks bs)
          data_more x u = past_rtm t (inr (found, inr (inside, inr (fresh, u))))
            where
              fresh : CallFails area limit v (data_repeats bs) → ⊥
              fresh (k, (j, m, y, z, r)) = true≢false (sym ((repeats_words v bs h s i).1 (subst (Repeats v bs) (sole.only j m y).0 r)) ∙ x)
