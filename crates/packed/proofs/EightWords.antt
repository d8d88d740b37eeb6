-- An answer has eight words, and so many have eight times as many.
use Prim.Native.Nat.{ℕ, ◌*◌}
use lib.ListN.{length, length-append}
use mathlib.Core.List.{List, [], ◌∷◌}
use mathlib.Core.Path.{◌≡◌, refl}
use native.Mathlib.Omega.{arith}
use Rattle.peer.specs.declared.types.Answer.{Answer}
use Rattle.peer.specs.declared.types.Request.{Request}
use Rattle.engine.specs.Steps.{World}
use Rattle.guarantees.specs.Outputs.{output_of}
use Rattle.guarantees.specs.Receiving.{request_of, turn_of}
use Rattle.packed.specs.Calls.{words_each}
use Rattle.packed.specs.Answers.{answer_words}

pub length_answer : (a : Answer) → length (answer_words a) ≡ words_each
unfolding answer_words
length_answer (Answer.Refused k) = refl
length_answer (Answer.Posted slot) = refl
length_answer (Answer.Cancelled slot) = refl
length_answer Answer.Stored = refl
length_answer (Answer.Granted n) = refl
length_answer (Answer.Done slot id length cq) = refl
length_answer (Answer.Truncated slot id length) = refl
length_answer (Answer.Missing received first) = refl

pub length_answers : (bytes buffers : List ℕ) (w : World) (qs : List Request) → length (output_of bytes buffers answer_words w qs) ≡ words_each * length qs
unfolding output_of
length_answers bytes buffers w [] = refl
length_answers bytes buffers w (q ∷ qs) =
    let t = turn_of w (request_of bytes buffers q) in
    let ih = length_answers bytes buffers t.world qs in
    let a = length_answer t.answer in
    rw length-append (omega arith)
