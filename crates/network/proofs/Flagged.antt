-- Flags that are all alike.
use Rattle.std.proofs.Common.{◌≡◌, ℕ, Bool, true, false, cond, leb, get_or, replicate, sym, refl, ◌∙◌, inl, inr, arith}
use Rattle.std.proofs.lemmas.Simd.{get_or-replicate}
use Rattle.std.proofs.lemmas.Bool.{and_parts, leb-true, cases_Bool, cond-true, cond-false}
use Rattle.network.specs.Flags.{is_number}

turned : (x b : Bool) → cond x b false ≡ cond b x false
turned true true = refl
turned true false = refl
turned false true = refl
turned false false = refl

pub all_alike : (b : Bool) (i : ℕ) → cond (is_number i) (get_or (replicate 41 b) i false) false ≡ cond b (is_number i) false
all_alike b i =
    elim (cases_Bool (is_number i)) [
      | inl h ↦ cond-true _ _ _ h ∙ get_or-replicate 41 i b false (omega (arith, leb-true i 40 (and_parts (leb 1 i) (leb i 40) h).1)) ∙ sym (cond-true _ _ _ h)
      | inr h ↦ cond-false _ _ _ h ∙ sym (cond-false _ _ _ h)
    ]
    ∙ turned (is_number i) b
