-- The tokens of a JSON value that has no float, part by part, and what a call that writes some leaves.
use Rattle.std.specs.Prelude.{◌≡◌, ℕ, List, ◌++◌, map}
use Rattle.std.specs.Borrow.{Bor}
use Rattle.std.specs.List.Sorted.{IsPermutation, IsSortedByKey}
use Rattle.json.specs.Token.{Token}
use Rattle.json.specs.Tree.{json_tokens, items_tokens}
use Rattle.json.specs.Written.{Written}
use Rattle.serde_json.specs.Written.{outline, items_outline}
use Rattle.ild_data.specs.ByteOrder.{bytewise}
use Rattle.ild_data.specs.Data.{Data, Items, Members, members_list}
use Rattle.ild_data.specs.Key.{Rises}
use Rattle.ild_data.specs.Seen.{pair_of}
use Rattle.ild_data.specs.declared.tree.Tree.{Tree}
use Rattle.ild_json.specs.Printing.{json_of, items_json}

-- the tokens of data
abbrev pub data_tokens : Data → List Token
data_tokens d = json_tokens (outline (json_of d))

-- those of a list's items, with the closing bracket
abbrev pub list_tokens : Items → List Token
list_tokens ds = items_tokens (items_outline (items_json ds))

-- these tokens were written, behind the others
pub record Appends (old new : Written) (ts : List Token) : Type 0 where
  pub before : new.before ≡ old.before
  pub tokens : new.tokens ≡ old.tokens ++ ts

-- entries that are borrowed
abbrev pub entries_seen : List (Bor (List ℕ × Tree)) → List (List ℕ × Data)
entries_seen ps = map (λ p. pair_of p.now) ps

-- the entries of a map, whose keys rise, bytewise by key
pub record AreBytewise (ms : Members) (es : List (List ℕ × Data)) : Type 0 where
  pub rises : Rises (members_list ms)
  pub same : IsPermutation (members_list ms) es
  pub order : IsSortedByKey (λ (e : List ℕ × Data). e.0) bytewise es
