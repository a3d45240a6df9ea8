-- The item to which a way leads in a block, and the offset at which it is spelled.
use Rattle.std.specs.Prelude.{◌≡◌, ℕ, zero, suc, ◌+◌, cond, List, [], ◌∷◌, ◌++◌, length, Option, Some, None, option_map, option_and_then}
use Rattle.ild_data.specs.Data as T
use Rattle.ild_data.specs.Data.{Data}
use Rattle.ild_data.specs.Key.{same_text}
use Rattle.ild_data.specs.Spell.{head, spell, spell_text}
use Rattle.ild_typed.specs.Spots.{Step, item, key, under}

-- so many bytes further on
abbrev pub moved : ℕ → Option (ℕ × Data) → Option (ℕ × Data)
moved n o = option_map {U = ℕ × Data} (λ p. (n + p.0, p.1)) o

abbrev pub item_in : ℕ → T.Items → Option (ℕ × Data)
item_in n T.no_items = None
item_in zero (T.item d ds) = Some (0, d)
item_in (suc n) (T.item d ds) = moved (length (spell d)) (item_in n ds)

abbrev pub key_in : List ℕ → T.Members → Option (ℕ × Data)
key_in k T.no_members = None
key_in k (T.member l d ms) = cond (same_text k l) (Some (0, T.text l)) (moved (length (spell_text l ++ spell d)) (key_in k ms))

abbrev pub value_in : List ℕ → T.Members → Option (ℕ × Data)
value_in k T.no_members = None
value_in k (T.member l d ms) = cond (same_text k l) (Some (length (spell_text l), d)) (moved (length (spell_text l ++ spell d)) (value_in k ms))

abbrev pub step_in : Step → Data → Option (ℕ × Data)
step_in (item n) (T.list ds) = moved (length (head 4 (length (T.items_list ds)))) (item_in n ds)
step_in (key k) (T.map ms) = moved (length (head 5 (length (T.members_list ms)))) (key_in k ms)
step_in (under k) (T.map ms) = moved (length (head 5 (length (T.members_list ms)))) (value_in k ms)
step_in s d = None

-- the offset and the item
abbrev pub found_at : List Step → Data → Option (ℕ × Data)
found_at [] d = Some (0, d)
found_at (s ∷ way) d = option_and_then (λ p. moved p.0 (found_at way p.1)) (step_in s d)

-- its spelling stands there
pub record StandsAt (bytes : List ℕ) (p : ℕ × Data) : Type 0 where
  pub front : List ℕ
  pub back : List ℕ
  pub is : bytes ≡ front ++ (spell p.1 ++ back)
  pub place : length front ≡ p.0

abbrev pub WaysLead : Type 0
WaysLead = (way : List Step) (d : Data) (p : ℕ × Data) → found_at way d ≡ Some p → StandsAt (spell d) p
