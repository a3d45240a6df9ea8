-- The JSON value of data nests two deeper than the data at most.
use Rattle.std.proofs.Common.{ℕ, ◌+◌, ◌≤◌, max, List, [], ◌∷◌, Ordering, Less, Equal, Greater, nat_cmp, arith}
use Rattle.std.specs.Cmp.Lexicographic.{slice_cmp}
use Rattle.std.specs.Ordering.{match_ordering}
use Rattle.serde_json.specs.Data as json
use Rattle.ild_data.specs.Data.{Data, null, boolean, integer, text, bytes, list, map, link, Items, no_items, item, Members, no_members, member, depth, items_depth, members_depth}
use Rattle.ild_json.specs.Printing.{json_of, items_json, members_json, put_members}

put_at : (o : Ordering) (k l : List ℕ) (j e : json.Data) (js later : json.Members) → json.members_depth later ≤ max (json.depth j) (json.members_depth js)
    → json.members_depth (match_ordering o (json.member k j (json.member l e js)) (json.member l j js) (json.member l e later)) ≤ max (json.depth j) (max (json.depth e) (json.members_depth js))
put_at Less k l j e js later le = omega arith
put_at Equal k l j e js later le = omega arith
put_at Greater k l j e js later le = omega arith

put_depth : (k : List ℕ) (j : json.Data) (js : json.Members) → json.members_depth (json.put k j js) ≤ max (json.depth j) (json.members_depth js)
put_depth k j json.no_members = omega arith
put_depth k j (json.member l e js) = put_at (slice_cmp nat_cmp k l) k l j e js (json.put k j js) (put_depth k j js)

-- the deepest of the values that are put
abbrev values_depth : List (List ℕ × json.Data) → ℕ
values_depth [] = 0
values_depth (p ∷ ps) = max (json.depth p.1) (values_depth ps)

put_all_depth : (ps : List (List ℕ × json.Data)) (found : json.Members) → json.members_depth (put_members ps found) ≤ max (values_depth ps) (json.members_depth found)
put_all_depth [] found = omega arith
put_all_depth (p ∷ ps) found =
    let one = put_depth p.0 p.1 found in
    let others = put_all_depth ps (json.put p.0 p.1 found) in
    omega (arith, one, others)

mutual
  pub json_depth : (d : Data) → json.depth (json_of d) ≤ depth d + 2
  json_depth null = omega arith
  json_depth (boolean b) = omega arith
  json_depth (integer n) = omega arith
  json_depth (text s) = omega arith
  json_depth (bytes b) = omega arith
  json_depth (list ds) = let parts = items_json_depth ds in omega (arith, parts)
  json_depth (map ms) =
      let parts = members_json_depth ms in
      let all = put_all_depth (members_json ms) json.no_members in
      omega (arith, parts, all)
  json_depth (link cid) = omega arith

  items_json_depth : (ds : Items) → json.items_depth (items_json ds) ≤ items_depth ds + 2
  items_json_depth no_items = omega arith
  items_json_depth (item d ds) = let one = json_depth d in let others = items_json_depth ds in omega (arith, one, others)

  members_json_depth : (ms : Members) → values_depth (members_json ms) ≤ members_depth ms + 2
  members_json_depth no_members = omega arith
  members_json_depth (member k d ms) = let one = json_depth d in let others = members_json_depth ms in omega (arith, one, others)
