-- The permutation that a line states.
use Rattle.std.proofs.Common.{◌≡◌, ◌≢◌, ℕ, ◌+◌, List, length, map, take, ℤ, pos, sym, ap, subst, ◌∙◌, inl, inr, arith}
use Rattle.std.specs.Prelude.{codes, ◌⊎◌}
use Rattle.std.proofs.lemmas.List.{length-map, take_all}
use Rattle.qap_cost.specs.Bijection.{IsPerm}
use Rattle.qap_cost.specs.Range.{AllLimited}
use Rattle.qap_io.specs.Number.{from_one}
use Rattle.qap_lines.specs.Number.{IsNamed, held}
use Rattle.qap_lines.proofs.Held.{held-all_within, held_all_within-is}
use Rattle.qap_lines.proofs.Locations.{AllLimited-permutation}
use Rattle.qap_proof.specs.TextFault.{IsPermFault}
use Rattle.qap_proof.specs.declared.error.ProofError.{ProofError}
use Rattle.qap_proof.specs.declared.error.ProofError.TheVariants.{OutOfMemory, PermBad}

-- where the held numbers are a permutation, the numbers of the line are
pub IsNamed-permutation : (n : ℕ) (line : List ℕ) (zs first : List ℤ) (p : List ℕ) → length zs ≡ n → first ≡ map held (take n zs) → IsNamed (codes "perm") line zs → IsPerm p → first ≡ from_one p
    → IsPerm p × (length p ≡ n) × IsNamed (codes "perm") line (from_one p)
IsNamed-permutation n line zs first p long is named perm locations =
    let same : map held zs ≡ from_one p = ap (map held) (sym (take_all n zs (omega arith))) ∙ sym is ∙ locations in
    let exact : zs ≡ from_one p = sym (held_all_within-is zs (subst AllLimited (sym same) (AllLimited-permutation p perm))) ∙ same in
    (perm, sym (length-map p (λ k. pos (k + 1))) ∙ sym (ap length exact) ∙ long, subst (IsNamed (codes "perm") line) exact named)

-- where the held numbers are no permutation, those of the line are none
pub IsPermFault-numbers : (n : ℕ) (line : List ℕ) (zs first : List ℤ) (e : ProofError) → length zs ≡ n → first ≡ map held (take n zs) → IsNamed (codes "perm") line zs
    → (e ≡ OutOfMemory) ⊎ ((e ≡ PermBad 4) × ((p : List ℕ) → IsPerm p → first ≢ from_one p)) → (e ≡ OutOfMemory) ⊎ IsPermFault n line e
IsPermFault-numbers n line zs first e long is named (inl memory) = inl memory
IsPermFault-numbers n line zs first e long is named (inr fault) =
    let none : (p : List ℕ) → IsPerm p → zs ≢ from_one p = λ p perm same.
    fault.1 p perm (is ∙ ap (map held) (take_all n zs (omega arith) ∙ same) ∙ held-all_within (from_one p) (AllLimited-permutation p perm)) in
    inr (inr (fault.0, zs, long, named, none))
