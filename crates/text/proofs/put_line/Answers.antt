-- `text::put_line` meets its contract. The loop's invariant: with the numbers that are left, the line is whole.
use Prim.Native.Nat.{ℕ, suc, ◌+◌, ◌≤◌}
use lib.ListN.{length, get_or, drop, length-append}
use mathlib.Core.List.{List, [], ◌∷◌, ◌++◌}
use mathlib.Core.Path.{◌≡◌, sym, ap, ◌∙◌}
use native.Mathlib.Numerals.{add-one}
use native.Mathlib.Omega.{arith}
use Rattle.laws.proofs.Storing.{set_store, store_next}
use Rattle.text.specs.Decimals.{decimal}
use Rattle.text.specs.Lines.{numbers_line}
use Rattle.text.proofs.LineLaws.{numbers_turn, length_turn, numbers_end}
use Rattle.text.proofs.put_line.Goals as goal
use Rattle.text.proofs.put_line.Goals.{After-loop-number, In-loop-number}

-- the numbers of the line
abbrev numbers : In-loop-number → List ℕ
numbers c = c.args.numbers.now

-- the number that is put now, and those behind it
turn : (c : In-loop-number)
    → let k = c.loop-number.number-index in
    numbers_line (drop k (numbers c)) ≡ (32 ∷ decimal (get_or (numbers c) k 0)) ++ numbers_line (drop (suc k) (numbers c))
turn c = numbers_turn (numbers c) c.loop-number.number-index (omega arith)

-- they have room
room : (c : In-loop-number)
    → let l = c.loop-number in l.next + length (numbers_line (drop l.number-index (numbers c))) ≤ length l.text
room c =
    let a = c.args in
    let w = c.write_bytes-next in
    let n = length-append a.word.now (numbers_line a.numbers.now) in
    let k : length w.new.s ≡ length a.text.now = w.auto.s in
    omega arith

-- the line's end, and its room
last : (c : After-loop-number)
    → let a = c.args in
    numbers_line (drop c.loop-number.number-index a.numbers.now) ≡ 10 ∷ []
last c = numbers_end _ c.loop-number.number-index (omega arith)

room_left : (c : After-loop-number)
    → let l = c.loop-number in
    let a = c.args in
    l.next + length (numbers_line (drop l.number-index a.numbers.now)) ≤ length l.text
room_left c =
    let a = c.args in
    let w = c.write_bytes-next in
    let n = length-append a.word.now (numbers_line a.numbers.now) in
    let k : length w.new.s ≡ length a.text.now = w.auto.s in
    omega arith

pub put_number-next-requires : goal.put_number-next-requires
put_number-next-requires c =
    let p = room (goal.at.put_number-next-requires c).In-loop-number in
    let n = length_turn (numbers (goal.at.put_number-next-requires c).In-loop-number) c.loop-number.number-index (omega arith) in
    omega arith

pub loop-number-preserved : goal.loop-number-preserved
loop-number-preserved c =
    let l = c.loop-number in
    let d : List ℕ = 32 ∷ decimal (get_or (numbers (goal.at.loop-number-preserved c).In-loop-number) l.number-index 0) in
    let rest = numbers_line (drop (suc l.number-index) (numbers (goal.at.loop-number-preserved c).In-loop-number)) in
    let w = c.put_number-next in
    let n = length_turn (numbers (goal.at.loop-number-preserved c).In-loop-number) c.loop-number.number-index (omega arith) in
    let p = room (goal.at.loop-number-preserved c).In-loop-number in (
      rw add-one (omega arith),
      rw (add-one, l.invariant.1, turn (goal.at.loop-number-preserved c).In-loop-number, w.ensures.1) (sym (store_next l.text l.next d rest w.result w.ensures.0 (omega arith))),
    )

pub bounds-text-next : goal.bounds-text-next
bounds-text-next c =
    let e = ap length (last (goal.at.bounds-text-next c).After-loop-number) in
    let p = room_left (goal.at.bounds-text-next c).After-loop-number in
    omega arith

pub returns : goal.returns
returns c =
    let w = c.write_bytes-next in
    let l = c.loop-number in
    let a = c.args in
    let n = length-append a.word.now (numbers_line a.numbers.now) in
    let e = ap length (last (goal.at.returns c).After-loop-number) in
    let p = room_left (goal.at.returns c).After-loop-number in (
      omega arith,
      set_store l.text l.next 10 (omega arith)
          ∙ sym (rw (last (goal.at.returns c).After-loop-number) at l.invariant.1)
          ∙ rw w.ensures.1 (store_next a.text.now a.at a.word.now (numbers_line a.numbers.now) w.result w.ensures.0 (omega arith)),
    )
