-- A spelling has a byte at least, so a count of parts is no greater than the bytes that spell them.
use Rattle.std.proofs.Common.{cond, ltb, ℕ, ◌^◌, ◌<◌, ◌≤◌, Bool, true, false, List, ◌++◌, length, length-append, arith}
use Rattle.std.specs.Prelude.{pos, negsuc}
use Rattle.ild_data.specs.Data.{Data, null, boolean, integer, text, bytes, list, map, link, Items, no_items, item, Members, no_members, member, items_list, members_list}
use Rattle.ild_data.specs.Spell.{head, spell, spell_text, spell_items, spell_members}

some_of : (b : Bool) (x y : List ℕ) → 0 < length x → 0 < length y → 0 < length (cond b x y)
some_of true x y p q = p
some_of false x y p q = q

pub head_some : (major n : ℕ) → 0 < length (head major n)
head_some major n = some_of (ltb n 24) _ _ (omega arith) (some_of (ltb n (2 ^ 8)) _ _ (omega arith) (some_of (ltb n (2 ^ 16)) _ _ (omega arith) (some_of (ltb n (2 ^ 32)) _ _ (omega arith) (omega arith))))

behind_head : (major n : ℕ) (xs : List ℕ) → 0 < length (head major n ++ xs)
behind_head major n xs = omega (arith, head_some major n, length-append (head major n) xs)

pub spell_some : (t : Data) → 0 < length (spell t)
spell_some null = omega arith
spell_some (boolean true) = omega arith
spell_some (boolean false) = omega arith
spell_some (integer (pos n)) = head_some 0 n
spell_some (integer (negsuc n)) = head_some 1 n
spell_some (text s) = behind_head 3 (length s) s
spell_some (bytes s) = behind_head 2 (length s) s
spell_some (list ds) = behind_head 4 (length (items_list ds)) (spell_items ds)
spell_some (map ms) = behind_head 5 (length (members_list ms)) (spell_members ms)
spell_some (link s) = omega arith

pub items_count : (ds : Items) → length (items_list ds) ≤ length (spell_items ds)
items_count no_items = omega arith
items_count (item d ds) =
    let some = spell_some d in
    let rest = items_count ds in
    let len = length-append (spell d) (spell_items ds) in
    omega arith

pub members_count : (ms : Members) → length (members_list ms) ≤ length (spell_members ms)
members_count no_members = omega arith
members_count (member k d ms) =
    let some = spell_some d in
    let rest = members_count ms in
    let len = length-append (spell_text k ++ spell d) (spell_members ms) in
    let first = length-append (spell_text k) (spell d) in
    omega arith
