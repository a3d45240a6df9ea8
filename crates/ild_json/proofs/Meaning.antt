-- What bytes mean as DAG-JSON is a tree, where they were read.
use Rattle.std.proofs.Common.{◌≡◌, ◌⊎◌, ℕ, List, Result, Ok, Err, sym, ◌∙◌, subst, inl, inr}
use Rattle.ild_data.specs.Data.{Data}
use Rattle.ild_data.specs.Tree.{IsTree}
use Rattle.ild_json.specs.Law.{MeansTree}
use Rattle.ild_json.specs.Reading.{json_read}
use Rattle.ild_json.specs.declared.error.JsonErr.{JsonErr}
use Rattle.ild_json.specs.declared.error.JsonErr.TheVariants as E

same_data : (r : Result Data JsonErr) (c d : Data) → r ≡ Ok c → r ≡ Ok d → c ≡ d
same_data r c d p q = let e : Ok c ≡ Ok d = sym p ∙ q in cc

no_data : (r : Result Data JsonErr) (e : JsonErr) (d : Data) → r ≡ Err e → r ≡ Ok d → ⊥
no_data r e d p q = let both : Err e ≡ Ok d = sym p ∙ q in cc

pub means_read : (bytes : List ℕ) (t : Data) → json_read bytes ≡ Ok t → IsTree t → MeansTree bytes
means_read bytes t read tree d is = subst IsTree (same_data (json_read bytes) t d read is) tree

pub means_none : (bytes : List ℕ) (e : JsonErr) → (e ≡ E.Memory) ⊎ (json_read bytes ≡ Err e) → (e ≡ E.Memory) ⊎ MeansTree bytes
means_none bytes e (inl memory) = inl memory
means_none bytes e (inr fault) = inr (λ d is. absurd (no_data (json_read bytes) e d fault is))
