-- A search for a key among entries: the first entry has it, or what is left is sought.
use Rattle.std.proofs.Common.{◌≡◌, ℕ, suc, ◌-◌, ◌^◌, ◌<◌, ◌≤◌, Bool, true, false, cond, inl, inr, List, [], ◌++◌, length, length-append, append_assoc, Some, None, refl, sym, ap, subst, ◌∙◌, arith}
use Rattle.std.specs.Prelude.{nat_eq}
use Rattle.std.specs.Ordering.{nat_cmp, ordering_then}
use Rattle.std.specs.Cmp.{nat_cmp_is}
use Rattle.std.specs.Cmp.Lexicographic.{slice_cmp}
use Rattle.std.specs.declared.cmp.Ordering.TheVariants.{Less, Greater}
use Rattle.std.proofs.lemmas.Bool.{cases_lt}
use lib.Pointwise.{pointwise_long}
use Rattle.ild_data.specs.Data.{Data, Items, no_items, item, Members, no_members, member, members_list, members_depth}
use Rattle.ild_data.specs.Spell.{head, spell, spell_text, spell_members}
use Rattle.ild_data.specs.Tree.{AreEntries}
use Rattle.ild_data.specs.Key.{key_cmp, same_text, value_at}
use Rattle.ild_cbor.specs.declared.start.Start.{Start}
use Rattle.ild_cbor.specs.Reading.{split_at}
use Rattle.ild_cbor.specs.inside.Row.{IsRow, IsEntryRow}
use Rattle.ild_cbor.specs.inside.Shape.{IsStart}
use Rattle.ild_cbor.specs.Span.{values_before, key_index}
use Rattle.ild_cbor.specs.inside.Search.{CutsValue}
use Rattle.ild_cbor.proofs.Heads.{split_again}
use Rattle.ild_cbor.proofs.Insides.{one_row}

-- a key that is spelled is cut off behind its head
pub key_is : (s : Start) (b k x : List ℕ) → ((major m : ℕ) (y : List ℕ) → m < 2 ^ 64 → b ≡ head major m ++ y → IsStart s major m y) → length k < 2 ^ 64 → b ≡ spell_text k ++ x → split_at s.argument s.rest.now ≡ Some (k, x)
key_is s b k x starts lt e =
    let st = starts 3 (length k) (k ++ x) lt (e ∙ append_assoc (head 3 (length k)) k x) in
    ap (λ (m : ℕ). split_at m s.rest.now) st.argument_is ∙ ap (split_at (length k)) st.rest_is ∙ split_again (length k) k x refl

-- what is left of the entries after some that have other keys
pub record Left (s b key : List ℕ) (n : ℕ) (ms : Members) : Type 0 where
  pub more : Members
  pub row : IsEntryRow b n more []
  pub front : List ℕ
  pub before : s ≡ front ++ b
  pub same : value_at key (members_list ms) ≡ value_at key (members_list more)
  pub place : values_before (key_index key ms) ms ≡ front ++ values_before (key_index key more) more
  pub nested : members_depth more ≤ members_depth ms

pub all_left : (s key : List ℕ) (n : ℕ) (ms : Members) → IsEntryRow s n ms [] → Left s s key n ms
all_left s key n ms h = record { more = ms; row = h; front = []; before = refl; same = refl; place = refl; nested = omega arith }

-- the first of some entries, in the bytes
pub record FirstRow (b : List ℕ) (k : List ℕ) (d : Data) (x : List ℕ) : Type 0 where
  pub key_short : length k < 2 ^ 64
  pub key_front : b ≡ spell_text k ++ (spell d ++ x)
  pub value_short : length (spell d ++ x) < 2 ^ 64
  pub rest_short : length x < 2 ^ 64

pub first_row : (b : List ℕ) (k : List ℕ) (d : Data) (more : Members) (x : List ℕ) → b ≡ spell_members (member k d more) ++ x → length b < 2 ^ 64 → FirstRow b k d (spell_members more ++ x)
first_row b k d more x e short =
    let flat : b ≡ spell_text k ++ (spell d ++ (spell_members more ++ x)) =
    e ∙ append_assoc (spell_text k ++ spell d) (spell_members more) x ∙ append_assoc (spell_text k) (spell d) (spell_members more ++ x) in
    let l1 : length b ≡ length (spell_text k ++ (spell d ++ (spell_members more ++ x))) = ap length flat in
    let l2 = length-append (spell_text k) (spell d ++ (spell_members more ++ x)) in
    let l3 = length-append (head 3 (length k)) k in
    let l4 = length-append (spell d) (spell_members more ++ x) in
    record { key_short = omega arith; key_front = flat; value_short = omega arith; rest_short = omega arith }

-- the first entry of what is left, as it was read
pub record Meets (s b k value key : List ℕ) (n : ℕ) (ms : Members) (front : List ℕ) : Type 0 where
  pub d : Data
  pub more : Members
  pub entries : AreEntries (member k d more)
  pub count : length (members_list (member k d more)) ≡ n
  pub value_is : value ≡ spell d ++ (spell_members more ++ [])
  pub to_value : s ≡ (front ++ spell_text k) ++ value
  pub small : length value < 2 ^ 64
  pub same : value_at key (members_list ms) ≡ value_at key (members_list (member k d more))
  pub place : values_before (key_index key ms) ms ≡ front ++ values_before (key_index key (member k d more)) (member k d more)
  pub nested : members_depth (member k d more) ≤ members_depth ms

meets_at : (s b key k value : List ℕ) (n : ℕ) (ms : Members) (h : Left s b key n ms) (d : Data) (more : Members) → IsEntryRow b n (member k d more) []
    → value_at key (members_list ms) ≡ value_at key (members_list (member k d more)) → values_before (key_index key ms) ms ≡ h.front ++ values_before (key_index key (member k d more)) (member k d more)
    → members_depth (member k d more) ≤ members_depth ms → value ≡ spell d ++ (spell_members more ++ []) → Meets s b k value key n ms h.front
meets_at s b key k value n ms h d more row same place nested value_is =
    let f = first_row b k d more [] row.is row.short in
    let len : length value ≡ length (spell d ++ (spell_members more ++ [])) = ap length value_is in
    record {
      d = d;
      more = more;
      entries = row.entries;
      count = row.count;
      value_is = value_is;
      to_value = h.before ∙ ap (λ (x : List ℕ). h.front ++ x) (f.key_front ∙ ap (λ (x : List ℕ). spell_text k ++ x) (sym value_is)) ∙ sym (append_assoc h.front (spell_text k) value);
      small = omega (arith, f.value_short);
      same = same;
      place = place;
      nested = nested;
    }

pub meets : (s b key k value : List ℕ) (n : ℕ) (ms : Members) (h : Left s b key n ms) → 0 < n → ((j x : List ℕ) → length j < 2 ^ 64 → b ≡ spell_text j ++ x → k ≡ j)
    → ((j x : List ℕ) → length j < 2 ^ 64 → b ≡ spell_text j ++ x → value ≡ x) → Meets s b k value key n ms h.front
meets s b key k value n ms h lt keys values = go h.more h.row h.same h.place h.nested
  where
    go : (more : Members) → IsEntryRow b n more [] → value_at key (members_list ms) ≡ value_at key (members_list more) → values_before (key_index key ms) ms ≡ h.front ++ values_before (key_index key more) more
        → members_depth more ≤ members_depth ms → Meets s b k value key n ms h.front
    go no_members row same place nested = let c = row.count in absurd (omega arith)
    go (member j d more) row same place nested =
        let f = first_row b j d more [] row.is row.short in
        let k_is : k ≡ j = keys j (spell d ++ (spell_members more ++ [])) f.key_short f.key_front in
        let value_is : value ≡ spell d ++ (spell_members more ++ []) = values j (spell d ++ (spell_members more ++ [])) f.key_short f.key_front in
        subst (λ (i : List ℕ). Meets s b i value key n ms h.front) (sym k_is) (meets_at s b key j value n ms h d more row same place nested value_is)

-- the key is the one that is sought
pub hit : (s b k value key : List ℕ) (n : ℕ) (ms : Members) (front : List ℕ) → Meets s b k value key n ms front → true ≡ same_text key k → CutsValue s value key ms
hit s b k value key n ms front m t =
    let d = m.d in
    let more = m.more in
    let here : value_at key (members_list ms) ≡ Some d = m.same ∙ ap (λ b. cond b (Some d) (value_at key (members_list more))) (sym t) in
    let place : values_before (key_index key ms) ms ≡ front ++ spell_text k = m.place ∙ ap (λ b. front ++ values_before (cond b 0 (suc (key_index key more))) (member k d more)) (sym t) in
    record { of = d; is = here; before = m.to_value ∙ ap (λ (x : List ℕ). x ++ value) (sym place); after = spell_members more ++ []; behind = m.value_is; tree = m.entries.1; nested = omega (arith, m.nested) }

-- the key is another one
pub miss : (s b k value after key : List ℕ) (n : ℕ) (ms : Members) (front : List ℕ) → Meets s b k value key n ms front → ((ds : Items) (x : List ℕ) → IsRow value 1 ds x → after ≡ x) → false ≡ same_text key k → Left s after key (n - 1) ms
miss s b k value after key n ms front m skips t =
    let d = m.d in
    let more = m.more in
    let count = m.count in
    let rest : List ℕ = values_before (key_index key more) more in
    let after_is : after ≡ spell_members more ++ [] = skips (item d no_items) (spell_members more ++ []) (one_row value d (spell_members more ++ []) m.value_is m.entries.1 m.small) in
    let l1 : length after ≡ length (spell_members more ++ []) = ap length after_is in
    let l2 : length value ≡ length (spell d ++ (spell_members more ++ [])) = ap length m.value_is in
    let l3 = length-append (spell d) (spell_members more ++ []) in
    let small = m.small in
    let here : value_at key (members_list ms) ≡ value_at key (members_list more) = m.same ∙ ap (λ b. cond b (Some d) (value_at key (members_list more))) (sym t) in
    let place : values_before (key_index key ms) ms ≡ ((front ++ spell_text k) ++ spell d) ++ rest =
    m.place ∙ ap (λ b. front ++ values_before (cond b 0 (suc (key_index key more))) (member k d more)) (sym t) ∙ sym (append_assoc front (spell_text k) (spell d ++ rest)) ∙ sym (append_assoc (front ++ spell_text k) (spell d) rest) in
    let before : s ≡ ((front ++ spell_text k) ++ spell d) ++ after =
    m.to_value ∙ ap (λ (x : List ℕ). (front ++ spell_text k) ++ x) (m.value_is ∙ ap (λ (x : List ℕ). spell d ++ x) (sym after_is)) ∙ sym (append_assoc (front ++ spell_text k) (spell d) after) in
    record { more = more; row = record { is = after_is; count = omega arith; entries = m.entries.3; short = omega arith }; front = (front ++ spell_text k) ++ spell d; before = before; same = here; place = place; nested = omega (arith, m.nested) }

pub none_left : (s b key : List ℕ) (n : ℕ) (ms : Members) → Left s b key n ms → n ≡ 0 → value_at key (members_list ms) ≡ None
none_left s b key n ms h e = h.same ∙ nothing h.more (h.row.count ∙ e)
  where
    nothing : (more : Members) → length (members_list more) ≡ 0 → value_at key (members_list more) ≡ None
    nothing no_members z = refl
    nothing (member k d more) z = absurd (omega arith)

-- ---- keys that are too long

length_rises : (k l : List ℕ) → key_cmp k l ≡ Less → length k ≤ length l
length_rises k l e =
    elim (cases_lt (length l) (length k)) [
      | inl lt ↦
          let order : Greater ≡ nat_cmp (length k) (length l) = nat_cmp_is (length k) (length l) Greater lt in
          let more : ordering_then Greater (slice_cmp nat_cmp k l) ≡ key_cmp k l = ap (λ o. ordering_then o (slice_cmp nat_cmp k l)) order in
          absurd cc
      | inr le ↦ le
    ]

not_same : (k l : List ℕ) (b : Bool) → same_text k l ≡ b → length k < length l → b ≡ false
not_same k l true e lt = let same = pointwise_long nat_eq k l e in absurd (omega arith)
not_same k l false e lt = refl

-- behind a key that is longer than the one that is sought, it does not come
no_longer : (key k : List ℕ) (d : Data) (more : Members) → AreEntries (member k d more) → length key < length k → value_at key (members_list (member k d more)) ≡ None
no_longer key k d no_members entries lt = ap (λ b. cond b (Some d) None) (not_same key k (same_text key k) refl lt)
no_longer key k d (member l e more) entries lt =
    let longer = length_rises k l entries.2 in
    ap (λ b. cond b (Some d) (value_at key (members_list (member l e more)))) (not_same key k (same_text key k) refl lt) ∙ no_longer key l e more entries.3 (omega arith)

pub too_long : (s b k value key : List ℕ) (n : ℕ) (ms : Members) (front : List ℕ) → Meets s b k value key n ms front → length key < length k → value_at key (members_list ms) ≡ None
too_long s b k value key n ms front m lt = m.same ∙ no_longer key k m.d m.more m.entries lt
