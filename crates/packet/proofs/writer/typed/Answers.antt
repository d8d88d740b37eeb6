-- `packet::writer::typed` meets its contract. The length that `total` answers is the packet's.
use Prim.Native.Nat.{ℕ, ◌≤◌}
use borrow.Author.Tests.{lt-ltb, le-ltb}
use lib.ListN.{length}
use mathlib.Core.Bool.{Bool, true, ◌&&◌}
use mathlib.Core.List.{List}
use mathlib.Core.Path.{◌≡◌, sym, ◌∙◌}
use native.Mathlib.Omega.{arith}
use Rattle.std.specs.Prelude.{Option}
use Rattle.laws.specs.Choose.{pick}
use Rattle.protocol.specs.Arrays.{array_allowed}
use Rattle.protocol.specs.Optional.{flags_of, options_fit}
use Rattle.protocol.specs.Rules.{Sound}
use Rattle.protocol.specs.declared.table.TypeRow.{TypeRow}
use Rattle.protocol.specs.declared.types.Header.{Header}
use Rattle.protocol.specs.Totals.{limited_to, total_of}
use Rattle.protocol.specs.Writing.{packet_bytes, write_as, write_bytes}
use Rattle.laws.proofs.Choosing.{and_left, and_right}
use Rattle.protocol.proofs.WritingLaws.{limited_above, limited_bytes, total_is}
use Rattle.protocol.specs.Limits.{packet_limit}
use Rattle.packet.proofs.writer.typed.Goals as goal
use Rattle.packet.proofs.writer.typed.Goals.{Else-not-lengths_fit, In-Some}

-- past the tests of optional headers, array and lengths, the bytes are written
passed : (c : Else-not-lengths_fit) → let a = c.args in
    write_as a.row a.header a.array.now a.raw.now a.«data».now a.out.now
    ≡ write_bytes (packet_bytes a.row a.header a.array.now a.raw.now a.«data».now) a.out.now
unfolding write_as pick
passed c =
    let e1 = c.if-not-may_have.false in
    let e2 = c.if-not-lengths_fit.false in
    rw (← c.may_have.ensures, e1, ← c.lengths_fit.ensures, e2)

-- the type may have the optional headers and the array
fitting : (r : TypeRow) (h : Header) (n : ℕ) {m : Bool} → m ≡ (options_fit r h && array_allowed r n) → m ≡ true
    → (options_fit r h ≡ true) × (array_allowed r n ≡ true)
fitting r h n e x =
    let w = sym e ∙ x in
    (and_left _ (array_allowed r n) w, and_right (options_fit r h) _ w)

-- `total` answers the packet's length, if the limit allows it
answered : (r : TypeRow) (h : Header) (array raw body : List ℕ) {m : Bool} {flags : ℕ} {x : Option ℕ} → Sound r
    → m ≡ (options_fit r h && array_allowed r (length array)) → m ≡ true → flags ≡ flags_of r h
    → x ≡ total_of r flags (length array) (length raw) (length body) → limited_to (length (packet_bytes r h array raw body)) ≡ x
answered r h array raw body s e m f x =
    let (t, u) = fitting r h (length array) e m in
    sym (total_is r h array raw body s t u) ∙ sym (rw f at x)

measured : (c : In-Some) →
    let a = c.args in
    let bytes = packet_bytes a.row a.header a.array.now a.raw.now a.«data».now in
    (length bytes ≡ c.in-Some.n) × (length bytes ≤ packet_limit)
measured c =
    let a = c.args in
    limited_bytes _ _
    (answered a.row a.header a.array.now a.raw.now a.«data».now c.requires c.may_have.ensures c.if-not-may_have.false c.written-flags.ensures c.total.ensures
    ∙ c.in-Some.is)

pub returns-then-not-may_have : goal.returns-then-not-may_have
unfolding write_as pick
returns-then-not-may_have c =
    let e = c.if-not-may_have.true in
    rw (← c.may_have.ensures, e)

pub returns-then-not-lengths_fit : goal.returns-then-not-lengths_fit
unfolding write_as pick
returns-then-not-lengths_fit c =
    let e1 = c.if-not-may_have.false in
    let e2 = c.if-not-lengths_fit.true in
    rw (← c.may_have.ensures, e1, ← c.lengths_fit.ensures, e2)

pub returns-then-out-n : goal.returns-then-out-n
unfolding write_bytes pick
returns-then-out-n c =
    let m = measured (goal.at.returns-then-out-n c).In-Some in
    let k = rw (← m.0) at c.if-out-n.true in
    rw (passed (goal.at.returns-then-out-n c).Else-not-lengths_fit, le-ltb packet_limit _ m.1, lt-ltb _ _ k)

pub returns-in_default : goal.returns-in_default
unfolding write_bytes pick
returns-in_default c =
    let e = limited_above _ (answered c.args.row c.args.header c.args.array.now c.args.raw.now c.args.«data».now c.requires c.may_have.ensures c.if-not-may_have.false c.written-flags.ensures c.total.ensures
    ∙ c.in_default.is) in
    rw (passed (goal.at.returns-in_default c).Else-not-lengths_fit, lt-ltb packet_limit _ e)

pub returns : goal.returns
unfolding write_bytes pick
returns c =
    let m = measured (goal.at.returns c).In-Some in
    let k = rw (← m.0) at c.if-out-n.false in
    rw (passed (goal.at.returns c).Else-not-lengths_fit, le-ltb packet_limit _ m.1, le-ltb _ _ k, c.put.ensures, m.0)

pub put-requires-clause-data_len_bound : goal.put-requires-clause-data_len_bound
put-requires-clause-data_len_bound c = (measured (goal.at.put-requires-clause-data_len_bound c).In-Some).1

pub put-requires-clause-data_in_bounds : goal.put-requires-clause-data_in_bounds
put-requires-clause-data_in_bounds c = omega (arith, measured (goal.at.put-requires-clause-data_in_bounds c).In-Some)
