-- Entries under rising keys, as a slice of pairs and as members.
use Rattle.std.proofs.Common.{cond, ◌≡◌, ℕ, ◌≤◌, List, [], ◌∷◌, Bool, true, false, map, max, Option, Some, refl, ap, sym, arith}
use Rattle.std.specs.Prelude.{option_map}
use Rattle.std.proofs.lemmas.Option.{same_Some, none-some}
use Rattle.ild_data.specs.Data.{Data, depth, Members, no_members, member, members_list, members_depth}
use Rattle.ild_data.specs.Key.{same_text, value_at, IsBelow}
use Rattle.ild_data.specs.Seen.{data_of, pair_of}
use Rattle.ild_data.specs.declared.tree.Tree.{Tree}
use Rattle.ild_value.specs.inside.Parts.{only_member}

below_seen : (k : List ℕ) (ps : List (List ℕ × Tree)) → IsBelow k (map pair_of ps) → IsBelow k ps
below_seen k [] h = tt
below_seen k (p ∷ ps) h = h

value_by : (b : Bool) (t : Tree) (o : Option Tree) (q : Option Data) → q ≡ option_map data_of o → cond b (Some (data_of t)) q ≡ option_map data_of (cond b (Some t) o)
value_by true t o q h = refl
value_by false t o q h = h

pub value_seen : (k : List ℕ) (ps : List (List ℕ × Tree)) → value_at k (map pair_of ps) ≡ option_map data_of (value_at k ps)
value_seen k [] = refl
value_seen k (p ∷ ps) = value_by (same_text k p.0) p.1 (value_at k ps) (value_at k (map pair_of ps)) (value_seen k ps)

pub value_depth : (k : List ℕ) (ms : Members) (d : Data) → value_at k (members_list ms) ≡ Some d → depth d ≤ members_depth ms
value_depth k no_members d h = absurd (none-some d h)
value_depth k (member j c ms) d h = by (same_text k j) h (λ g. value_depth k ms d g)
  where
    by : (b : Bool) → cond b (Some c) (value_at k (members_list ms)) ≡ Some d → (value_at k (members_list ms) ≡ Some d → depth d ≤ members_depth ms) → depth d ≤ max (depth c) (members_depth ms)
    by true g rest = let e = ap depth (same_Some c d g) in omega arith
    by false g rest = let e = rest g in omega arith

pub only_depth : (k : List ℕ) (ms : Members) (d : Data) → Some (k, d) ≡ only_member ms → depth d ≤ members_depth ms
only_depth k no_members d h = absurd (none-some (k, d) (sym h))
only_depth k (member j c no_members) d h = let e = ap (λ (p : List ℕ × Data). depth p.1) (same_Some (k, d) (j, c) h) in omega arith
only_depth k (member j c (member l e ms)) d h = absurd (none-some (k, d) (sym h))
