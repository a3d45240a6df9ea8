-- The entries of an envelope: one under each of its two keys (IPLD Schemas, "envelope").
use Rattle.std.specs.Prelude.{◌≡◌, ◌⊎◌, ◌||◌, ℕ, Bool, true, false, not, is_none, List, [], ◌∷◌, Result, MatchResult}
use Rattle.std.specs.List.{list_any}
use Rattle.ild_data.specs.Data.{Data}
use Rattle.ild_data.specs.Key.{same_text, value_at}
use Rattle.ild_cbor.specs.declared.node.Node.{Node}
use Rattle.ild_cbor.specs.declared.why.Why.{Why}
use Rattle.ild_cbor.specs.declared.why.Why.TheVariants as Y
use Rattle.ild_cbor.specs.Nodes.{HasData}

-- a name is one of the two keys
abbrev pub is_one : List ℕ → List ℕ → List ℕ → Bool
is_one key content name = same_text key name || same_text content name

abbrev pub has_stranger : List ℕ → List ℕ → List (List ℕ × Data) → Bool
has_stranger key content es = list_any (λ (e : List ℕ × Data). not (is_one key content e.0)) es

abbrev pub lacks_one : List ℕ → List ℕ → List (List ℕ × Data) → Bool
lacks_one key content es = is_none (value_at key es) || is_none (value_at content es)

-- these two entries, in the order of their keys
abbrev pub AreBoth : List ℕ → List ℕ → Data → Data → List (List ℕ × Data) → Type 0
AreBoth key content d e es = (es ≡ (key, d) ∷ (content, e) ∷ []) ⊎ (es ≡ (content, e) ∷ (key, d) ∷ [])

abbrev pub IsOff : List ℕ → List ℕ → List (List ℕ × Data) → Why → Type 0
IsOff key content es Y.Name = has_stranger key content es ≡ true
IsOff key content es Y.Missing = (has_stranger key content es ≡ false) × (lacks_one key content es ≡ true)
IsOff key content es w = ⊥

-- nodes for the values under both, or the first cause why the entries are others
abbrev pub BothAnswer : List ℕ → List ℕ → List (List ℕ × Data) → Result (Node × Node) Why → Type 0
BothAnswer key content es r =
    MatchResult r (λ p. (d : Data) × (e : Data) × HasData p.0 d × HasData p.1 e × AreBoth key content d e es) (IsOff key content es)
