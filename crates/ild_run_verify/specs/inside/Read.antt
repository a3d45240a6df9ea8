-- A proof that is read, piece by piece.
use Rattle.std.specs.Prelude.{◌≡◌, ℕ, List, map, Result, Ok, Err}
use Rattle.ild_data.specs.Data.{Data, bytes}
use Rattle.ild_run_verify.specs.Proof.{IsProof, blocks_data}
use Rattle.ild_run_verify.specs.declared.fault.VerifyFault.{VerifyFault}
use Rattle.ild_run_verify.specs.declared.fault.VerifyFault.TheVariants as F

-- the blocks that are so, or that none are
abbrev pub ReadsAs : (List (List ℕ) → Type 0) → Result (List (List ℕ)) VerifyFault → Type 0
ReadsAs Is (Ok blocks) = Is blocks
ReadsAs Is (Err F.Proof) = (blocks : List (List ℕ)) → Is blocks → ⊥
ReadsAs Is (Err F.Memory) = Unit {0}
ReadsAs Is (Err (F.Cut cut)) = ⊥

abbrev pub ReadsItems : List Data → Result (List (List ℕ)) VerifyFault → Type 0
ReadsItems items result = ReadsAs (λ blocks. items ≡ map bytes blocks) result

abbrev pub ReadsList : Data → Result (List (List ℕ)) VerifyFault → Type 0
ReadsList d result = ReadsAs (λ blocks. d ≡ blocks_data blocks) result

abbrev pub ReadsProof : List ℕ → Result (List (List ℕ)) VerifyFault → Type 0
ReadsProof input result = ReadsAs (IsProof input) result
