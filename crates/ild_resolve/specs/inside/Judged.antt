-- How a function answers that looks up the words of a part of the text.
use Rattle.std.specs.Prelude.{◌≡◌, ◌⊎◌, ℕ, List, Option, Some, None, Result, Ok, Err}
use Rattle.ild_resolve.specs.Events.{Event}
use Rattle.ild_resolve.specs.Faults.{first_wrong}
use Rattle.ild_resolve.specs.declared.error.ResolveErr.{ResolveErr}
use Rattle.ild_resolve.specs.declared.error.ResolveErr.TheVariants as E

-- it ends well only where no word is wrong; else it tells of the first one that is, or of memory
abbrev pub Judged : {A : Type 0} → (List ℕ → Option ℕ) → List Event → Result A ResolveErr → Type 0
Judged numbers es (Ok a) = first_wrong numbers es ≡ None
Judged numbers es (Err e) = (e ≡ E.Memory) ⊎ (first_wrong numbers es ≡ Some e)
