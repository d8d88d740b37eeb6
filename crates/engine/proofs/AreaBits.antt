-- The words of a peer are the bits of its area: bit x of them is bit p×A + x of the map.
use Prim.Native.Nat.{ℕ, ◌+◌, ◌*◌, ◌/◌, ◌%◌, ◌^◌}
use lib.ListN.{get_or}
use mathlib.Core.Path.{◌≡◌, sym, ap, ap₂, ◌∙◌}
use native.Mathlib.Nat.{mul_assoc}
use native.Mathlib.Omega.{arith}
use Rattle.bitmap.specs.Map.{bit, bit_at}
use Rattle.engine.specs.Checks.{WordsAreTheAreasBits}
use Rattle.laws.proofs.Reading.{get_d_part}

-- the word of the map that has the bit of byte x of p's area
pub word_of : (p area x : ℕ) → area % 64 ≡ 0 → p * (area / 64) + x / 64 ≡ (p * area + x) / 64
word_of p area x z =
    let k : ℕ = area / 64 in
    let product : p * area ≡ p * k * 64 = ap (λ (a : ℕ). p * a) (omega arith) ∙ sym (mul_assoc p k 64) in
    omega (arith, product)

pub words_are_the_areas_bits : WordsAreTheAreasBits
unfolding WordsAreTheAreasBits bit_at bit
words_are_the_areas_bits w p x z l =
    let k : ℕ = w.engine.area / 64 in
    let product : p * w.engine.area ≡ p * k * 64 = ap (λ (a : ℕ). p * a) (omega arith) ∙ sym (mul_assoc p k 64) in
    let within : x % 64 ≡ (p * w.engine.area + x) % 64 = omega (arith, product) in
    ap₂ (λ (word n : ℕ). word / 2 ^ n % 2)
    (get_d_part w.map (p * k) k (x / 64) 0 (omega arith) ∙ ap (λ (j : ℕ). get_or w.map j 0) (word_of p w.engine.area x z)) within
