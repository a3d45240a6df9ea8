-- What is printed is read back as the same data.
use Rattle.std.proofs.Common.{◌≡◌, ℕ, ◌≤◌, ℤ, pos, negsuc, List, [], ◌∷◌, Some, None, option_and_then, Ok, Ordering, Less, Equal, Greater, nat_cmp, true, false, refl, sym, ap, ◌∙◌, subst, arith}
use Rattle.std.proofs.lemmas.Map.Lookups.{exact_bytes}
use Rattle.std.specs.Cmp.Lexicographic.{slice_cmp}
use Rattle.std.specs.Ordering.{match_ordering}
use Rattle.base64.specs.Engines.{standard_no_pad}
use Rattle.base64.proofs.EngineFacts.{decode_of-encode_of}
use Rattle.serde_json.specs.Data as json
use Rattle.serde_json.specs.Events.{members_len}
use Rattle.serde_json.specs.Find.{as_str, of_integer}
use Rattle.ild_data.specs.Bytes.{AreBytes}
use Rattle.ild_data.specs.CidText.{cid_text_of}
use Rattle.ild_data.specs.Data.{Data, null, boolean, integer, text, bytes, list, map, link, Items, no_items, item, Members, no_members, member, items_list, members_of, members_list}
use Rattle.ild_data.specs.Key.{same_text, Rises}
use Rattle.ild_data.specs.Tree.{IsTree, AreTrees, AreEntries}
use Rattle.ild_data.proofs.Bytes.{AreBytes-places}
use Rattle.ild_data.proofs.Lists.{items_of-items_list, members_of-members_list}
use Rattle.ild_data.proofs.Texts.{read-cid_text}
use Rattle.ild_json.specs.Slash.{slash, bytes_word, only_member}
use Rattle.ild_json.specs.Reading.{and_others, under_key, number_read, link_or_fault, link_read, bytes_or_fault, bytes_read, data_read, items_read, members_read, object_read, bytes_form, map_or_fault, list_or_fault}
use Rattle.ild_json.specs.Printing.{bytes_text, json_of, items_json, members_json, put_members, is_slash_alone, has_reserved, items_have_reserved, members_have_reserved}
use Rattle.ild_json.proofs.Order.{put_bytewise, put_all_bytewise, bytewise_and_back, apart_below}
use Rattle.ild_json.proofs.Shows.{not_first, not_second}
use Rattle.ild_json.proofs.Slashes.{only_member-one, only_member-others}

integer_back : (n : ℤ) → number_read (of_integer n) ≡ Ok (integer n)
integer_back (pos n) = refl
integer_back (negsuc n) = refl

bytes_back : (b : List ℕ) → AreBytes b → bytes_read (bytes_text b) ≡ Ok (bytes b)
unfolding bytes_read bytes_text
bytes_back b all = ap bytes_or_fault (decode_of-encode_of standard_no_pad b refl (AreBytes-places b all))

link_back : (cid : List ℕ) → IsTree (link cid) → link_read (cid_text_of cid) ≡ Ok (link cid)
unfolding link_read
link_back cid is = ap link_or_fault (read-cid_text cid is.0 is.1)

pub slash_only : (j : json.Data) → only_member slash (json.member slash j json.no_members) ≡ Some j
unfolding only_member
slash_only j = refl

pub word_only : (j : json.Data) → only_member bytes_word (json.member bytes_word j json.no_members) ≡ Some j
unfolding only_member
word_only j = refl

-- ---- an object and the entries that are read of it

abbrev pub Held : json.Members → List (List ℕ × Data) → Type 0
Held json.no_members [] = Unit {0}
Held json.no_members (m ∷ ms) = ⊥
Held (json.member k j js) [] = ⊥
Held (json.member k j js) (m ∷ ms) = (k ≡ m.0) × (data_read j ≡ Ok m.1) × Held js ms

pub held_read : (js : json.Members) (ms : List (List ℕ × Data)) → Held js ms → members_read js ≡ Ok ms
held_read json.no_members [] h = refl
held_read json.no_members (m ∷ ms) h = absurd h
held_read (json.member k j js) [] h = absurd h
held_read (json.member k j js) (m ∷ ms) h =
    ap (λ r. and_others (under_key k r) (members_read js)) h.1 ∙ ap (λ r. and_others (Ok (k, m.1)) r) (held_read js ms h.2) ∙ ap (λ s. Ok ((s, m.1) ∷ ms)) h.0

held_at : (o : Ordering) (k l : List ℕ) (j e : json.Data) (d : Data) (js later : json.Members) (m : List ℕ × Data) (ms laters : List (List ℕ × Data)) → slice_cmp nat_cmp k l ≡ o
    → data_read j ≡ Ok d → l ≡ m.0 → data_read e ≡ Ok m.1 → Held js ms → Held later laters
    → Held (match_ordering o (json.member k j (json.member l e js)) (json.member l j js) (json.member l e later)) (match_ordering o ((k, d) ∷ m ∷ ms) ((k, d) ∷ ms) (m ∷ laters))
held_at Less k l j e d js later m ms laters is read key old others rest = (refl, read, (key, old, others))
held_at Equal k l j e d js later m ms laters is read key old others rest = (sym (exact_bytes k l is), read, others)
held_at Greater k l j e d js later m ms laters is read key old others rest = (key, old, rest)

pub held_put : (k : List ℕ) (j : json.Data) (d : Data) (js : json.Members) (ms : List (List ℕ × Data)) → data_read j ≡ Ok d → Held js ms → Held (json.put k j js) (put_bytewise k d ms)
held_put k j d json.no_members [] read h = (refl, read, tt)
held_put k j d json.no_members (m ∷ ms) read h = absurd h
held_put k j d (json.member l e js) [] read h = absurd h
held_put k j d (json.member l e js) (m ∷ ms) read h =
    let P : Ordering → Type 0 = λ o. Held (json.put k j (json.member l e js)) (match_ordering o ((k, d) ∷ m ∷ ms) ((k, d) ∷ ms) (m ∷ put_bytewise k d ms)) in
    subst P (ap (slice_cmp nat_cmp k) h.0)
    (held_at (slice_cmp nat_cmp k l) k l j e d js (json.put k j js) m ms (put_bytewise k d ms) refl read h.0 h.1 h.2 (held_put k j d js ms read h.2))

abbrev AllBack : Members → Type 0
AllBack no_members = Unit {0}
AllBack (member k d ms) = (data_read (json_of d) ≡ Ok d) × AllBack ms

held_all : (ms : Members) (found : json.Members) (founds : List (List ℕ × Data)) → AllBack ms → Held found founds → Held (put_members (members_json ms) found) (put_all_bytewise (members_list ms) founds)
held_all no_members found founds all h = h
held_all (member k d ms) found founds all h =
    held_all ms (json.put k (json_of d) found) (put_bytewise k d founds) all.1 (held_put k (json_of d) d found founds all.0 h)

-- ---- an object that is not read as a link or as bytes

grows_at : (o : Ordering) (k l : List ℕ) (j e : json.Data) (js later : json.Members) → members_len js ≤ members_len later
    → members_len (json.member l e js) ≤ members_len (match_ordering o (json.member k j (json.member l e js)) (json.member l j js) (json.member l e later))
grows_at Less k l j e js later le = omega arith
grows_at Equal k l j e js later le = omega arith
grows_at Greater k l j e js later le = omega arith

grows : (k : List ℕ) (j : json.Data) (js : json.Members) → members_len js ≤ members_len (json.put k j js)
grows k j json.no_members = omega arith
grows k j (json.member l e js) = grows_at (slice_cmp nat_cmp k l) k l j e js (json.put k j js) (grows k j js)

grows_all : (ps : List (List ℕ × json.Data)) (found : json.Members) → members_len found ≤ members_len (put_members ps found)
grows_all [] found = omega arith
grows_all (p ∷ ps) found = let one = grows p.0 p.1 found in let others = grows_all ps (json.put p.0 p.1 found) in omega (arith, one, others)

two_at : (o : Ordering) (k l : List ℕ) (i j : json.Data) → slice_cmp nat_cmp l k ≡ o → (l ≡ k → ⊥)
    → members_len (match_ordering o (json.member l j (json.member k i json.no_members)) (json.member k j json.no_members) (json.member k i (json.member l j json.no_members))) ≡ 2
two_at Less k l i j is apart = refl
two_at Equal k l i j is apart = absurd (apart (exact_bytes l k is))
two_at Greater k l i j is apart = refl

pub lone : (o : Ordering) (k : List ℕ) (j : json.Data) → slice_cmp nat_cmp slash k ≡ o → same_text k slash ≡ false → match_ordering o None (Some j) None ≡ None
lone Less k j is apart = refl
lone Equal k j is apart = absurd (let e : false ≡ true = sym apart ∙ ap (λ s. same_text s slash) (sym (exact_bytes slash k is)) in cc)
lone Greater k j is apart = refl

not_alone : (ms : Members) → Rises (members_list ms) → is_slash_alone ms ≡ false → only_member slash (put_members (members_json ms) json.no_members) ≡ None
not_alone no_members up apart = only_member-others slash json.no_members (λ one. absurd (omega arith))
not_alone (member k d no_members) up apart =
    only_member-one slash (json.member k (json_of d) json.no_members) refl ∙ lone (slice_cmp nat_cmp slash k) k (json_of d) refl apart
not_alone (member k d (member l e ms)) up apart =
    let first = json.put l (json_of e) (json.member k (json_of d) json.no_members) in
    let two : members_len first ≡ 2 = two_at (slice_cmp nat_cmp l k) k l (json_of d) (json_of e) refl (apart_below k l up.0) in
    let more = grows_all (members_json ms) first in
    only_member-others slash (put_members (members_json ms) first) (λ one. absurd (omega (arith, two, more, one)))

pub rises_members : (ms : Members) → AreEntries ms → Rises (members_list ms)
rises_members no_members all = tt
rises_members (member k d ms) all = (all.2, rises_members ms all.3)

mutual
  pub back : (d : Data) → IsTree d → has_reserved d ≡ false → data_read (json_of d) ≡ Ok d
  back null is free = refl
  back (boolean b) is free = refl
  back (integer n) is free = integer_back n
  back (text s) is free = refl
  back (bytes b) is free =
      let inner = json.member bytes_word (json.string (bytes_text b)) json.no_members in
      ap (λ o. object_read o (members_read (json.member slash (json.object inner) json.no_members))) (slash_only (json.object inner))
      ∙ ap (λ o. bytes_form (option_and_then as_str o)) (word_only (json.string (bytes_text b))) ∙ bytes_back b is
  back (list ds) is free = ap list_or_fault (items_back ds is free) ∙ ap (λ es. Ok (list es)) (items_of-items_list ds)
  back (map ms) is free =
      let js = put_members (members_json ms) json.no_members in
      let up = rises_members ms is in
      let each = members_back ms is (not_second (is_slash_alone ms) (members_have_reserved ms) free) in
      ap (λ o. object_read o (members_read js)) (not_alone ms up (not_first (is_slash_alone ms) (members_have_reserved ms) free))
      ∙ ap map_or_fault (held_read js (put_all_bytewise (members_list ms) []) (held_all ms json.no_members [] each tt))
      ∙ ap (λ xs. Ok (map (members_of xs))) (bytewise_and_back (members_list ms) up) ∙ ap (λ es. Ok (map es)) (members_of-members_list ms)
  back (link cid) is free =
      ap (λ o. object_read o (members_read (json.member slash (json.string (cid_text_of cid)) json.no_members))) (slash_only (json.string (cid_text_of cid))) ∙ link_back cid is

  items_back : (ds : Items) → AreTrees ds → items_have_reserved ds ≡ false → items_read (items_json ds) ≡ Ok (items_list ds)
  items_back no_items is free = refl
  items_back (item d ds) is free =
      let one = back d is.0 (not_first (has_reserved d) (items_have_reserved ds) free) in
      let others = items_back ds is.1 (not_second (has_reserved d) (items_have_reserved ds) free) in
      ap (λ r. and_others r (items_read (items_json ds))) one ∙ ap (λ r. and_others (Ok d) r) others

  members_back : (ms : Members) → AreEntries ms → members_have_reserved ms ≡ false → AllBack ms
  members_back no_members is free = tt
  members_back (member k d ms) is free = (
    back d is.1 (not_first (has_reserved d) (members_have_reserved ms) free),
    members_back ms is.3 (not_second (has_reserved d) (members_have_reserved ms) free),
  )
