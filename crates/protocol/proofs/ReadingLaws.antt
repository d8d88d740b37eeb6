-- Laws of reading: where a packet's sections lie.
use Prim.Native.Nat.{ℕ, ◌+◌, ◌≤◌, ◌<◌}
use borrow.Author.Tests.{ltb-false, lt-ltb}
use lib.Dec.{ltb}
use lib.ListN.{length}
use mathlib.Core.List.{List}
use mathlib.Core.Logic.{⊎_elim}
use mathlib.Core.Path.{◌≡◌, sym, ◌∙◌}
use native.Mathlib.Omega.{arith}
use Rattle.std.specs.Prelude.{Some, None}
use Rattle.laws.specs.Choose.{pick}
use Rattle.protocol.specs.Layout.{multiuse}
use Rattle.protocol.specs.Rules.{SectionsInside, Sound}
use Rattle.protocol.specs.Optional.{connid, cq_data, flagged, raw_address}
use Rattle.protocol.specs.Sections.{extent_of, raw_span}
use Rattle.protocol.specs.SectionsInTurn.{after_array, after_raw, connid_length, cq_data_length, sections_at, sections_behind, sections_from}
use Rattle.protocol.specs.declared.sections.Sections.{Sections}
use Rattle.protocol.specs.declared.table.TypeRow.{TypeRow}
use Rattle.protocol.specs.declared.types.Span.{Span}
use Rattle.laws.proofs.Choosing.{pick_cases, pick_small, pick_true}
use Rattle.protocol.proofs.RowLaws.{connid_after, connid_small, connid_within}
use Rattle.protocol.proofs.StepLaws.{extent_in_steps}

-- CQ data and connid are short
pub options_short : (r : TypeRow) (f : ℕ) → Sound r → cq_data_length r f + connid_length r f ≤ 16
unfolding cq_data_length connid_length
options_short r f s = omega (arith, pick_small (flagged r f cq_data) 8, connid_small r (flagged r f connid) s)

-- a packet that ends before its raw address does is cut short
pub cut_before : (r : TypeRow) (f : ℕ) (raw : Span) (at n : ℕ) → n < at → sections_from r f raw at n ≡ None
unfolding sections_from pick
cut_before r f raw at n h = rw (lt-ltb n (at + cq_data_length r f + connid_length r f) (omega arith))

module _ (r : TypeRow) (f : ℕ) (raw : Span) (at n : ℕ) (s : Sound r) (h : r.header ≤ at) where
  sections_inside : at + cq_data_length r f + connid_length r f ≤ n → SectionsInside r f (sections_at r f raw at) n
  unfolding cq_data_length connid_length
  sections_inside k =
      record {
        header = omega arith;
        cq = λ e. omega (arith, pick_true {A = ℕ} 8 0 e);
        connid = λ e.
            let q = pick_true {A = ℕ} r.connid 0 e in
            ⊎_elim (λ m. rw (connid_after r _ m.0) (omega arith)) (λ m. rw (connid_within r _ m.0) (omega (arith, s.inside multiuse)))
            s.connid_place;
        body = k;
      }

  from_inside : (t : Sections) → sections_from r f raw at n ≡ Some t → SectionsInside r f t n
  unfolding sections_from
  from_inside t e =
      ⊎_elim (λ w. let z : ◌≡◌ {A = ℕ} 0 1 = cc in absurd (omega arith))
      (λ w. let q : sections_at r f raw at ≡ t = cc in rw (← q) (sections_inside (ltb-false n _ w.0)))
      (pick_cases (ltb n (at + cq_data_length r f + connid_length r f)) None (Some (sections_at r f raw at)) (Some t) e)

-- the sections that are found lie inside the packet
pub extent_inside : (r : TypeRow) (f : ℕ) (bs : List ℕ) (t : Sections) → Sound r → extent_of r f bs ≡ Some t → SectionsInside r f t (length bs)
unfolding sections_behind after_array
extent_inside r f bs t s e =
    from_inside r f (raw_span (flagged r f raw_address) bs (after_array r bs)) (after_raw r f bs) (length bs) s (unfold after_raw in omega arith) t
    (unfold after_raw in sym (extent_in_steps r f bs) ∙ e)
