-- What is spelled is read, whatever follows it.
use Rattle.std.proofs.Common.{ltb, ◌≡◌, ℕ, zero, suc, ◌+◌, ◌*◌, ◌/◌, ◌^◌, ◌<◌, ◌≤◌, true, false, List, ◌∷◌, ◌++◌, length, length-append, Option, Some, None, Ok, refl, ap, ◌∙◌, append_assoc, arith}
use Rattle.std.specs.Prelude.{◌==◌, pos, negsuc}
use Rattle.std.specs.Str.{is_utf8}
use Rattle.std.proofs.lemmas.Bool.{ne_eqb, lt-ltb}
use Rattle.std.proofs.lemmas.Str.{is_utf8-from_IsUtf8}
use Rattle.std.proofs.lemmas.Int.{ints}
use Rattle.ild_data.specs.Data.{Data, null, boolean, integer, text, bytes, list, map, link, Items, no_items, item, Members, no_members, member, items_list, members_list, depth, items_depth, members_depth}
use Rattle.ild_data.specs.Spell.{head, spell, spell_text, spell_bytes, spell_items, spell_members}
use Rattle.ild_data.specs.Tree.{IsTree, AreTrees, AreEntries}
use Rattle.ild_data.specs.Key.{IsBelow}
use Rattle.ild_cbor.specs.Reading.{Read, may_follow, key_at, items_at, members_at, simple_at, body_at, item_by, item_at, part_at}
use Rattle.ild_cbor.proofs.Heads.{cut_again, IsHead, head_reads, head_of}
use Rattle.ild_cbor.proofs.Strings.{first_major, first_low, key_again, link_again}
use Rattle.ild_data.proofs.Sizes.{items_count, members_count}

-- what a reader of parts, beneath a container with this much room, reads again
abbrev pub ReadsAgain : ℕ → (List ℕ → Read Data) → Type 0
ReadsAgain room r = (d : Data) (rest : List ℕ) → IsTree d → depth d < room → length (spell d) < 2 ^ 64 → r (spell d ++ rest) ≡ Ok (d, rest)

pub items_again : (room : ℕ) (r : List ℕ → Read Data) (again : ReadsAgain room r) (ds : Items) (rest : List ℕ)
    → AreTrees ds → items_depth ds < room → length (spell_items ds) < 2 ^ 64 → items_at r (length (items_list ds)) (spell_items ds ++ rest) ≡ Ok (ds, rest)
unfolding items_at
items_again room r again no_items rest trees shallow short = refl
items_again room r again (item d ds) rest trees shallow short =
    let len = length-append (spell d) (spell_items ds) in
    let first : r (spell d ++ (spell_items ds ++ rest)) ≡ Ok (d, spell_items ds ++ rest) = again d (spell_items ds ++ rest) trees.0 (omega arith) (omega arith) in
    let others = items_again room r again ds rest trees.1 (omega arith) (omega arith) in
    rw (append_assoc (spell d) (spell_items ds) rest, first, others) refl

-- the entries may stand behind this key
abbrev pub Follows : Option (List ℕ) → Members → Type 0
Follows None ms = Unit {0}
Follows (Some k) ms = IsBelow k (members_list ms)

follows_again : (before : Option (List ℕ)) (k : List ℕ) (d : Data) (ms : Members) → Follows before (member k d ms) → may_follow before k ≡ true
follows_again None k d ms f = refl
follows_again (Some b) k d ms f = rw f refl

pub members_again : (room : ℕ) (r : List ℕ → Read Data) (again : ReadsAgain room r) (before : Option (List ℕ)) (ms : Members) (rest : List ℕ)
    → AreEntries ms → Follows before ms → members_depth ms < room → length (spell_members ms) < 2 ^ 64 → members_at r before (length (members_list ms)) (spell_members ms ++ rest) ≡ Ok (ms, rest)
unfolding members_at
members_again room r again before no_members rest entries follows shallow short = refl
members_again room r again before (member k d ms) rest entries follows shallow short =
    let len = length-append (spell_text k ++ spell d) (spell_members ms) in
    let len_first = length-append (spell_text k) (spell d) in
    let len_key = length-append (head 3 (length k)) k in
    let key : key_at (spell_text k ++ (spell d ++ (spell_members ms ++ rest))) ≡ Ok (k, spell d ++ (spell_members ms ++ rest)) = key_again k (spell d ++ (spell_members ms ++ rest)) entries.0 (omega arith) in
    let value : r (spell d ++ (spell_members ms ++ rest)) ≡ Ok (d, spell_members ms ++ rest) = again d (spell_members ms ++ rest) entries.1 (omega arith) (omega arith) in
    let others = members_again room r again (Some k) ms rest entries.3 entries.2 (omega arith) (omega arith) in
    rw (append_assoc (spell_text k ++ spell d) (spell_members ms) rest, append_assoc (spell_text k) (spell d) (spell_members ms ++ rest), key, follows_again before k d ms follows, value, others) refl

-- an item, by what stands behind its head
item_cell : (room : ℕ) (r : List ℕ → Read Data) (major low n : ℕ) (tail rest : List ℕ) (x : Read Data) → major < 7 → IsHead low n tail
    → ((from : List ℕ) → body_at room r from major n rest ≡ x) → item_by room r ((32 * major + low) ∷ (tail ++ rest)) ≡ x
unfolding item_by
item_cell room r major low n tail rest x lt h body =
    let m : (32 * major + low) / 32 ≡ major = first_major major low h.below in
    let t : (major == 7) ≡ false = ne_eqb major 7 (λ e. omega arith) in
    rw (m, t, first_low major low h.below, head_reads low n tail ((32 * major + low) ∷ (tail ++ rest)) rest h) (body ((32 * major + low) ∷ (tail ++ rest)))

item_head : (room : ℕ) (r : List ℕ → Read Data) (major n : ℕ) (rest : List ℕ) (x : Read Data) → major < 7 → n < 2 ^ 64
    → ((from : List ℕ) → body_at room r from major n rest ≡ x) → item_by room r (head major n ++ rest) ≡ x
item_head room r major n rest x lt limit body =
    let h = head_of n limit in
    ap (item_by room r) (ap (λ (t : List ℕ). t ++ rest) (h.is.spells major)) ∙ item_cell room r major h.low n h.tail rest x lt h.is body

item_piece : (room : ℕ) (r : List ℕ → Read Data) (major n : ℕ) (piece rest : List ℕ) (x : Read Data) → major < 7 → n < 2 ^ 64
    → ((from : List ℕ) → body_at room r from major n (piece ++ rest) ≡ x) → item_by room r ((head major n ++ piece) ++ rest) ≡ x
item_piece room r major n piece rest x lt limit body =
    ap (item_by room r) (append_assoc (head major n) piece rest) ∙ item_head room r major n (piece ++ rest) x lt limit body

has_room : (room : ℕ) → 0 < room → (room == 0) ≡ false
has_room room lt = ne_eqb room 0 (λ e. omega arith)

item_by_again : (room : ℕ) (r : List ℕ → Read Data) (again : ReadsAgain room r) (d : Data) (rest : List ℕ)
    → IsTree d → depth d ≤ room → length (spell d) < 2 ^ 64 → item_by room r (spell d ++ rest) ≡ Ok (d, rest)
unfolding item_by simple_at body_at
item_by_again room r again null rest tree shallow short = refl
item_by_again room r again (boolean true) rest tree shallow short = refl
item_by_again room r again (boolean false) rest tree shallow short = refl
item_by_again room r again (integer (pos n)) rest tree shallow short =
    item_head room r 0 n rest (Ok (integer (pos n), rest)) (omega arith) (omega (arith, ints)) (λ from. refl)
item_by_again room r again (integer (negsuc n)) rest tree shallow short =
    let t : ltb n (2 ^ 63) ≡ true = lt-ltb n (2 ^ 63) (omega (arith, ints)) in
    item_head room r 1 n rest (Ok (integer (negsuc n), rest)) (omega arith) (omega (arith, ints)) (λ from. rw t refl)
item_by_again room r again (text s) rest tree shallow short =
    let len = length-append (head 3 (length s)) s in
    let u : is_utf8 s ≡ true = is_utf8-from_IsUtf8 s tree in
    item_piece room r 3 (length s) s rest (Ok (text s, rest)) (omega arith) (omega arith) (λ from. rw (cut_again (length s) s rest refl, u) refl)
item_by_again room r again (bytes s) rest tree shallow short =
    let len = length-append (head 2 (length s)) s in
    item_piece room r 2 (length s) s rest (Ok (bytes s, rest)) (omega arith) (omega arith) (λ from. rw (cut_again (length s) s rest refl) refl)
item_by_again room r again (list ds) rest tree shallow short =
    let len = length-append (head 4 (length (items_list ds))) (spell_items ds) in
    let count = items_count ds in
    let t : (room == 0) ≡ false = has_room room (omega arith) in
    item_piece room r 4 (length (items_list ds)) (spell_items ds) rest (Ok (list ds, rest)) (omega arith) (omega arith)
    (λ from. rw (t, items_again room r again ds rest tree (omega arith) (omega arith)) refl)
item_by_again room r again (map ms) rest tree shallow short =
    let len = length-append (head 5 (length (members_list ms))) (spell_members ms) in
    let count = members_count ms in
    let t : (room == 0) ≡ false = has_room room (omega arith) in
    item_piece room r 5 (length (members_list ms)) (spell_members ms) rest (Ok (map ms, rest)) (omega arith) (omega arith)
    (λ from. rw (t, members_again room r again None ms rest tree tt (omega arith) (omega arith)) refl)
item_by_again room r again (link s) rest tree shallow short =
    let len = length-append (head 2 (length (0 ∷ s))) (0 ∷ s) in
    item_head room r 6 42 (spell_bytes (0 ∷ s) ++ rest) (Ok (link s, rest)) (omega arith) (omega arith) (λ from. link_again from s rest tree.0 (omega arith))

pub parts_again : (room : ℕ) → ReadsAgain room (part_at room)
unfolding part_at
parts_again zero d rest tree shallow short = absurd (omega arith)
parts_again (suc room) d rest tree shallow short = item_by_again room (part_at room) (parts_again room) d rest tree (omega arith) short

pub item_again : (room : ℕ) (d : Data) (rest : List ℕ) → IsTree d → depth d ≤ room → length (spell d) < 2 ^ 64 → item_at room (spell d ++ rest) ≡ Ok (d, rest)
item_again room d rest tree shallow short = item_by_again room (part_at room) (parts_again room) d rest tree shallow short
