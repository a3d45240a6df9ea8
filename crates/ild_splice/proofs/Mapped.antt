-- A map with one entry more or less, by the pieces of its spelling.
use Rattle.std.proofs.Common.{◌≡◌, ℕ, ◌+◌, ◌-◌, ◌^◌, ◌<◌, true, List, ◌∷◌, ◌++◌, length, Some, None, refl, ap, sym, subst, ◌∙◌, length-append, append_assoc, take, drop, arith}
use Rattle.std.specs.Prelude.{min, is_some}
use Rattle.std.proofs.lemmas.List.{take_at, drop_at}
use Rattle.ild_cbor.specs.declared.kind.Kind.TheVariants as K
use Rattle.ild_cbor.specs.declared.node.Node.{Node}
use Rattle.ild_cbor.specs.Nodes.{HasData}
use Rattle.ild_cbor.specs.Scalar.{kind_of, count_of}
use Rattle.ild_cbor.specs.Span.{entry_of}
use Rattle.ild_splice_changes.specs.Laws.{spell_pairs}
use Rattle.ild_splice_changes.specs.TreeChange.{insert_entry, remove_entry, change_here}
use Rattle.ild_splice_changes.proofs.Counts.{spell_pairs-append}
use Rattle.ild_data.specs.Data.{Data, null, boolean, integer, text, bytes, list, map, link, Members, members_of, members_list}
use Rattle.ild_data.specs.Key.{put, without}
use Rattle.ild_data.specs.Spell.{head, spell, spell_text, spell_members}
use Rattle.ild_data.proofs.Lists.{length-members, members_of-members_list}
use Rattle.ild_data.proofs.Sizes.{members_count}
use Rattle.ild_splice.specs.Around.{AreAroundKey, AreCutAtKey}
use Rattle.ild_splice.proofs.Keyed.{stays, one_less}

pub map_if : (d : Data) → kind_of d ≡ K.Map → (ms : Members) × (d ≡ map ms)
map_if null e = absurd cc
map_if (boolean b) e = absurd cc
map_if (integer n) e = absurd cc
map_if (text s) e = absurd cc
map_if (bytes s) e = absurd cc
map_if (list ds) e = absurd cc
map_if (map ms) e = (ms, refl)
map_if (link s) e = absurd cc

spelled_map : (ms : List (List ℕ × Data)) (n : ℕ) (x : List ℕ) → n ≡ length ms → x ≡ spell_pairs ms → head 5 n ++ x ≡ spell (map (members_of ms))
spelled_map ms n x count is = (λ i. head 5 (count i) ++ is i) ∙ ap (λ k. head 5 k ++ spell_pairs ms) (sym (length-members ms))

-- a map in a block has fewer entries than any count may say
few : (n : Node) (ms : Members) → HasData n (map ms) → length (members_list ms) + 1 < 2 ^ 64
few n ms stands =
    let within = stands.within in
    let sized = within.sized in
    let both = length-append (head 5 (length (members_list ms))) (spell_members ms) in
    let some = members_count ms in
    omega arith

-- ---- the entries around a key

pub around_key : (ms : Members) (count size from to : ℕ) (spelling entries before after key : List ℕ) → count ≡ length (members_list ms) → size ≡ length (head 5 count) → spelling ≡ spell (map ms)
    → entries ≡ drop size spelling → before ≡ take from entries → after ≡ drop to entries → AreCutAtKey from to key (members_list ms) → AreAroundKey before after key (members_list ms)
around_key ms count size from to spelling entries before after key counted sized spelled is front back c =
    let F = spell_pairs c.front in
    let B = spell_pairs c.behind in
    let first : length (head 5 (length (members_list ms))) ≡ size = sym (sized ∙ ap (λ k. length (head 5 k)) counted) in
    let all : spell_members ms ≡ F ++ (c.here ++ B) = ap spell_members (sym (members_of-members_list ms)) ∙ c.whole in
    let whole : entries ≡ F ++ (c.here ++ B) = is ∙ ap (drop size) spelled ∙ drop_at (head 5 (length (members_list ms))) (spell_members ms) size first ∙ all in
    let both : length (F ++ c.here) ≡ to = length-append F c.here ∙ sym c.to_is in
    record {
      front = c.front;
      behind = c.behind;
      cuts = c.cuts;
      before_is = front ∙ ap (take from) whole ∙ take_at F (c.here ++ B) from (sym c.from_is);
      after_is = back ∙ ap (drop to) (whole ∙ sym (append_assoc F c.here B)) ∙ drop_at (F ++ c.here) B to both;
    }

-- ---- the whole map

comes_in : (n : Node) (ms : Members) (count : ℕ) (before after key new : List ℕ) (e : Data) → HasData n (map ms) → entry_of (map ms) key ≡ None → count ≡ min (length (members_list ms) + 1) (2 ^ 64 - 1)
    → AreAroundKey before after key (members_list ms) → new ≡ spell e → head 5 count ++ (before ++ (spell_text key ++ (new ++ after))) ≡ spell (change_here (insert_entry key e) (map ms))
comes_in n ms count before after key new e stands absent counted a is =
    let short = few n ms stands in
    let same : members_list ms ≡ a.front ++ a.behind = sym (stays key (members_list ms) absent) ∙ a.cuts.goes in
    let old : length (members_list ms) ≡ length (a.front ++ a.behind) = ap length same in
    let l1 = length-append a.front a.behind in
    let l2 = length-append a.front ((key, e) ∷ a.behind) in
    let now : length (put key e (members_list ms)) ≡ length (a.front ++ (key, e) ∷ a.behind) = ap length (a.cuts.puts e) in
    let more : count ≡ length (put key e (members_list ms)) = omega arith in
    let entry : spell_text key ++ (new ++ after) ≡ spell_pairs ((key, e) ∷ a.behind) =
    (λ i. spell_text key ++ (is i ++ a.after_is i)) ∙ sym (append_assoc (spell_text key) (spell e) (spell_pairs a.behind)) in
    spelled_map (put key e (members_list ms)) count _ more ((λ i. a.before_is i ++ entry i) ∙ sym (spell_pairs-append a.front ((key, e) ∷ a.behind)) ∙ ap spell_pairs (sym (a.cuts.puts e)))

goes_in : (n : Node) (ms : Members) (count : ℕ) (before after key : List ℕ) → HasData n (map ms) → is_some (entry_of (map ms) key) ≡ true → count ≡ length (members_list ms) - 1
    → AreAroundKey before after key (members_list ms) → head 5 count ++ (before ++ after) ≡ spell (change_here (remove_entry key) (map ms))
goes_in n ms count before after key stands there counted a =
    let one = one_less key (members_list ms) there in
    let less : count ≡ length (without key (members_list ms)) = omega arith in
    spelled_map (without key (members_list ms)) count _ less ((λ i. a.before_is i ++ a.after_is i) ∙ sym (spell_pairs-append a.front a.behind) ∙ ap spell_pairs (sym a.cuts.goes))

-- with a count of the entries, as one was told
pub comes : (n : Node) (d e : Data) (told count : ℕ) (before after key new : List ℕ) → HasData n d → kind_of d ≡ K.Map → entry_of d key ≡ None → ((k : ℕ) → count_of d ≡ Some k → told ≡ k)
    → count ≡ min (told + 1) (2 ^ 64 - 1) → ((ms : Members) → HasData n (map ms) → AreAroundKey before after key (members_list ms)) → new ≡ spell e
    → head 5 count ++ (before ++ (spell_text key ++ (new ++ after))) ≡ spell (change_here (insert_entry key e) d)
comes n d e told count before after key new stands kind absent tells counted around is =
    let m = map_if d kind in
    let P : Data → Type 0 = λ u. HasData n u → entry_of u key ≡ None → ((k : ℕ) → count_of u ≡ Some k → told ≡ k)
    → head 5 count ++ (before ++ (spell_text key ++ (new ++ after))) ≡ spell (change_here (insert_entry key e) u) in
    subst P (sym m.1) (λ s none t. comes_in n m.0 count before after key new e s none (counted ∙ ap (λ k. min (k + 1) (2 ^ 64 - 1)) (t _ refl)) (around m.0 s) is) stands absent tells

pub goes : (n : Node) (d : Data) (told count : ℕ) (before after key : List ℕ) → HasData n d → kind_of d ≡ K.Map → is_some (entry_of d key) ≡ true → ((k : ℕ) → count_of d ≡ Some k → told ≡ k)
    → count ≡ told - 1 → ((ms : Members) → HasData n (map ms) → AreAroundKey before after key (members_list ms)) → head 5 count ++ (before ++ after) ≡ spell (change_here (remove_entry key) d)
goes n d told count before after key stands kind there tells counted around =
    let m = map_if d kind in
    let P : Data → Type 0 = λ u. HasData n u → is_some (entry_of u key) ≡ true → ((k : ℕ) → count_of u ≡ Some k → told ≡ k) → head 5 count ++ (before ++ after) ≡ spell (change_here (remove_entry key) u) in
    subst P (sym m.1) (λ s some t. goes_in n m.0 count before after key s some (counted ∙ ap (λ k. k - 1) (t _ refl)) (around m.0 s)) stands there tells
