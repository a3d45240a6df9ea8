-- Whole texts: what is read of bytes, and what is written of data, in which no float stands.
use Rattle.std.proofs.Common.{◌≡◌, ℕ, ℤ, pos, negsuc, List, [], ◌∷◌, Bool, true, false, ◌||◌, Some, None, Err, if◌then◌else◌, refl, ap, Ordering, Less, Equal, Greater, nat_cmp, IsUtf8}
use Rattle.std.proofs.lemmas.Str.{IsUtf8-from_is_utf8, is_utf8-from_IsUtf8}
use Rattle.std.specs.Str.{is_utf8}
use Rattle.std.specs.Cmp.Lexicographic.{slice_cmp}
use Rattle.std.specs.Ordering.{match_ordering}
use Rattle.std.proofs.lemmas.Bool.{or_from}
use Rattle.serde_json.specs.Data as json
use Rattle.serde_json.specs.Find.{is_float, of_integer}
use Rattle.serde_json.specs.Read.{read}
use Rattle.serde_json.specs.Written.{has_float, items_have_float, members_have_float, compact_text}
use Rattle.ild_data.specs.Data.{Data, null, boolean, integer, text, bytes, list, map, link, Items, no_items, item, Members, no_members, member}
use Rattle.ild_json.specs.declared.error.JsonErr.TheVariants as E
use Rattle.ild_json.specs.Reading.{json_read, value_read, data_read}
use Rattle.ild_json.specs.Printing.{json_of, items_json, members_json, put_members, has_reserved, json_text}
use Rattle.ild_json.proofs.Shows.{not_first, not_second}

pub json_read-some : (s : List ℕ) (d : json.Data) → IsUtf8 s → read s ≡ Some d → json_read s ≡ data_read d
unfolding json_read
json_read-some s d utf8 is = rw (is_utf8-from_IsUtf8 s utf8, is) refl

unread : (s : List ℕ) (b : Bool) → is_utf8 s ≡ b → (IsUtf8 s → read s ≡ None) → value_read (if b then read s else None) ≡ Err E.Syntax
unread s true is none = ap value_read (none (IsUtf8-from_is_utf8 s is))
unread s false is none = refl

pub json_read-none : (s : List ℕ) → (IsUtf8 s → read s ≡ None) → json_read s ≡ Err E.Syntax
unfolding json_read
json_read-none s none = unread s (is_utf8 s) refl none

pub json_text-some : (d : Data) → has_reserved d ≡ false → json_text d ≡ Some (compact_text (json_of d))
unfolding json_text
json_text-some d free = rw free refl

pub json_text-none : (d : Data) → has_reserved d ≡ true → json_text d ≡ None
unfolding json_text
json_text-none d stands = rw stands refl

-- ---- what is written has no float

integer_no_float : (n : ℤ) → is_float (of_integer n) ≡ false
integer_no_float (pos n) = refl
integer_no_float (negsuc n) = refl

put_at : (o : Ordering) (k l : List ℕ) (d e : json.Data) (ms : json.Members) → has_float d ≡ false → has_float e ≡ false → members_have_float ms ≡ false → members_have_float (json.put k d ms) ≡ false
    → members_have_float (match_ordering o (json.member k d (json.member l e ms)) (json.member l d ms) (json.member l e (json.put k d ms))) ≡ false
put_at Less k l d e ms new old others later = or_from (has_float d) (has_float e || members_have_float ms) new (or_from (has_float e) (members_have_float ms) old others)
put_at Equal k l d e ms new old others later = or_from (has_float d) (members_have_float ms) new others
put_at Greater k l d e ms new old others later = or_from (has_float e) (members_have_float (json.put k d ms)) old later

put_no_float : (k : List ℕ) (d : json.Data) (ms : json.Members) → has_float d ≡ false → members_have_float ms ≡ false → members_have_float (json.put k d ms) ≡ false
put_no_float k d json.no_members new none = or_from (has_float d) false new refl
put_no_float k d (json.member l e ms) new none =
    let old = not_first (has_float e) (members_have_float ms) none in
    let others = not_second (has_float e) (members_have_float ms) none in
    put_at (slice_cmp nat_cmp k l) k l d e ms new old others (put_no_float k d ms new others)

abbrev HaveNoFloat : List (List ℕ × json.Data) → Type 0
HaveNoFloat [] = Unit {0}
HaveNoFloat (m ∷ ms) = (has_float m.1 ≡ false) × HaveNoFloat ms

put_all_no_float : (ms : List (List ℕ × json.Data)) (found : json.Members) → HaveNoFloat ms → members_have_float found ≡ false → members_have_float (put_members ms found) ≡ false
put_all_no_float [] found none old = old
put_all_no_float (m ∷ ms) found none old = put_all_no_float ms (json.put m.0 m.1 found) none.1 (put_no_float m.0 m.1 found none.0 old)

mutual
  pub no_float : (d : Data) → has_float (json_of d) ≡ false
  no_float null = refl
  no_float (boolean b) = refl
  no_float (integer n) = integer_no_float n
  no_float (text s) = refl
  no_float (bytes b) = refl
  no_float (list ds) = items_no_float ds
  no_float (map ms) = put_all_no_float (members_json ms) json.no_members (members_no_float ms) refl
  no_float (link cid) = refl

  items_no_float : (ds : Items) → items_have_float (items_json ds) ≡ false
  items_no_float no_items = refl
  items_no_float (item d ds) = or_from (has_float (json_of d)) (items_have_float (items_json ds)) (no_float d) (items_no_float ds)

  members_no_float : (ms : Members) → HaveNoFloat (members_json ms)
  members_no_float no_members = tt
  members_no_float (member k d ms) = (no_float d, members_no_float ms)
