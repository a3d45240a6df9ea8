-- Pairs of a list, and numbers that tell their names apart.
use Rattle.std.specs.Prelude.{◌≡◌, ◌+◌, ◌*◌, ◌%◌, ◌^◌, ℕ, Bool, true, false, cond, nat_lt, List, [], ◌∷◌, map, Option, Some, None}
use Rattle.std.specs.List.{list_any}
use Rattle.ild_data.specs.Data.{Data, Items, item}
use Rattle.ild_cbor.specs.Nodes.{HasData}
use Rattle.ild_cbor.specs.Steps.{HasItems}
use Rattle.ild_cbor.specs.declared.items.Items.{Items as ItemsLeft}
use Rattle.ild_cbor.specs.declared.node.Node.{Node}
use Rattle.ild_typed.specs.Named.{pair_names}
use Rattle.ild_typed.specs.Strings.{pair_data}
use Rattle.ild_layer_pairs.specs.Judged.{is_miscounted, is_odd}

-- the first item is a pair: its name, its value, and the items behind it
pub record IsNamed (ds : Items) (name : List ℕ) (value : Node) (behind : ItemsLeft) : Type 0 where
  pub first : Data
  pub rest : Items
  pub is : ds ≡ item (pair_data (name, first)) rest
  pub stands : HasData value first
  pub left : HasItems behind rest

-- the digest of a text and then one more byte
abbrev pub digest_with : ℕ → ℕ → ℕ
digest_with d b = ((d * 1099511628211) % 2 ^ 64 + b) % 2 ^ 64

-- the digest of a text behind another, which has one
abbrev pub digest_behind : ℕ → List ℕ → ℕ
digest_behind d [] = d
digest_behind d (b ∷ bs) = digest_behind (digest_with d b) bs

abbrev pub digest_of : List ℕ → ℕ
digest_of text = digest_behind 0 text

-- all are pairs, and these are the digests of their names
pub record AreDigested (ds : List Data) (numbers : List ℕ) : Type 0 where
  pub fine : list_any is_odd ds ≡ false
  pub counted : list_any is_miscounted ds ≡ false
  pub are : numbers ≡ map digest_of (pair_names ds)

-- whether a number is greater than the one before it, where one is
abbrev pub follows : Option ℕ → ℕ → Bool
follows None n = true
follows (Some b) n = nat_lt b n

abbrev pub climbs : Option ℕ → List ℕ → Bool
climbs before [] = true
climbs before (n ∷ ns) = cond (follows before n) (climbs (Some n) ns) false
