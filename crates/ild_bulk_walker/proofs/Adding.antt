-- The steps that are added while a node is told to be one.
use Rattle.std.proofs.Common.{◌≡◌, ℕ, suc, ◌+◌, ◌-◌, ◌<◌, ◌≤◌, ◌&&◌, ◌==◌, ◌/◌, ◌^◌, Bool, true, false, List, [], ◌∷◌, ◌++◌, length, map, Option, Some, None, refl, sym, ap, ◌∙◌, subst, arith, append_assoc, append-nil, flat_map}
use Rattle.std.specs.Prelude.{IsUtf8, is_none, reverse}
use Rattle.std.specs.Borrow.{Bor}
use Rattle.std.specs.List.{AllByRecursion}
use Rattle.std.proofs.lemmas.Bool.{false≢true, and_from, eq-eqb}
use Rattle.ild_data.specs.declared.hamt_shape.HamtShape.{HamtShape}
use Rattle.ild_data.specs.Data.{Data, bytes, list, Items, no_items, item, items_of as items_from, items_list}
use Rattle.ild_data.specs.Trie.{TrieSlot, empty, bucket, child, is_used, map_of, elements_of, entry_data, node_data}
use Rattle.ild_cbor.specs.Chain.{chain}
use Rattle.ild_cbor.specs.Nodes.{HasData}
use Rattle.ild_cbor.specs.Pairing.{FindsPair}
use Rattle.ild_cbor.specs.Scalar.{bytes_of}
use Rattle.ild_cbor.specs.Steps.{HasItems, FindsItems, ItemsGive, items_of}
use Rattle.ild_cbor.specs.declared.items.Items.{Items as ItemsLeft}
use Rattle.ild_cbor.specs.declared.node.Node.{Node}
use Rattle.ild_typed.specs.Node.{IsSlot}
use Rattle.ild_typed.specs.NodeReading.{entry_in, pair_in, rises, goes_on, are_entries, elements_fit, pair_fits, node_fits, map_bit, map_bits}
use Rattle.ild_typed.proofs.NodeElements.{id-read}
use Rattle.ild_typed.proofs.NodeEntries.{entry-read}
use Rattle.ild_typed.proofs.NodeMaps.{bits-read}
use Rattle.ild_node_slots.specs.Form.{IsNode}
use Rattle.ild_node_slots.specs.Told.{EntryTold, EntryNext}
use Rattle.ild_node_slots.proofs.Entries.{pair-found}
use Rattle.ild_node_slots.proofs.Fits.{parts-of, not-listed, same_pair}
use Rattle.ild_node_slots.proofs.Shapes.{whole_map}
use Rattle.ild_node_slots.proofs.Telling.{EntriesAhead, GivesEntry, entries-fall, entries-miss}
use Rattle.ild_bulk_walker.proofs.Stepping.{steps-turned}
use Rattle.ild_bulk_walker.specs.Steps.{step_todo, steps_todo}
use Rattle.ild_bulk_walker.specs.Todo.{Todo, give, node_todo}
use Rattle.ild_bulk_walker.specs.inside.Told.{Lies, LiesThere, entry_todo, entries_todo, element_by, element_todo, elements_todo, Adds, SlotAdds, ReadsElements, PartsIn}
use Rattle.ild_bulk_walker.specs.declared.step.Step.{Step}

-- ---- the entries of a bucket

-- the entries so far were added, and these are still to be read, behind a key
pub record EntriesRead (s : ItemsLeft) (es ds : Items) (last : Option (List ℕ)) (left index : ℕ) (block : List ℕ) (old now : List Step) : Type 0 where
  pub more : Items
  pub has : HasItems s (chain more ds)
  pub many : length (items_list more) ≡ left
  pub same : are_entries es None ≡ are_entries more last
  pub here : s.block.now ≡ block
  pub todo_is : map step_todo now ++ entries_todo index more ≡ map step_todo old ++ entries_todo index es

pub entries-first : (s : ItemsLeft) (es ds : Items) (left index : ℕ) (block : List ℕ) (old : List Step) → HasItems s (chain es ds) → length (items_list es) ≡ left → s.block.now ≡ block → EntriesRead s es ds None left index block old old
entries-first s es ds left index block old has many here = record { more = es; has = has; many = many; same = refl; here = here; todo_is = refl }

ahead : (s : ItemsLeft) (es ds : Items) (last : Option (List ℕ)) (left index : ℕ) (block : List ℕ) (old now : List Step) → EntriesRead s es ds last left index block old now → EntriesAhead s es ds last left
ahead s es ds last left index block old now l = record { more = l.more; here = l.has; count = l.many; same = l.same }

entry-lies : (s t : ItemsLeft) (ds : Items) (block : List ℕ) (e : List ℕ × Data) (r : Bor (List ℕ) × Node) → s.block.now ≡ block → EntryTold s ds e r t → Lies block r.0.now r.1 e.1
entry-lies s t ds block e r here is =
    subst (λ (k : List ℕ). Lies block k r.1 e.1) (sym is.key) (record { text = is.text; stands = is.value; front = is.front; after = is.after; is = sym here ∙ is.here; place = is.place })

lies-by : (s t : ItemsLeft) (ds : Items) (block : List ℕ) (r : Bor (List ℕ) × Node) (o : Option (List ℕ × Data)) → s.block.now ≡ block → EntryNext s ds o (Some r) t → LiesThere block r.0.now r.1
lies-by s t ds block r None here is = absurd is
lies-by s t ds block r (Some e) here is = record { of = e.1; lies = entry-lies s t ds block e r here is }

-- an entry that was read stands in the block
pub next-lies : (s t : ItemsLeft) (es ds : Items) (last : Option (List ℕ)) (left index : ℕ) (block : List ℕ) (old now : List Step) (r : Bor (List ℕ) × Node) → EntriesRead s es ds last left index block old now → 0 < left → GivesEntry s (Some r) t
    → LiesThere block r.0.now r.1
next-lies s t es ds last left index block old now r l lt gives = let many = l.many in by l.more l.has (omega (arith, many, lt))
  where
    by : (more : Items) → HasItems s (chain more ds) → 0 < length (items_list more) → LiesThere block r.0.now r.1
    by no_items has some = absurd (omega arith)
    by (item d more) has some = lies-by s t (chain more ds) block r (entry_in d) l.here (gives d (chain more ds) has)

record StepOn (more ds : Items) (last : Option (List ℕ)) (index : ℕ) (block : List ℕ) (now new : List Step) (key : List ℕ) (o : Option (List ℕ × Data)) (t : ItemsLeft) : Type 0 where
  pub goes : goes_on last o (are_entries more) ≡ are_entries more (Some key)
  pub left : HasItems t ds
  pub here : t.block.now ≡ block
  pub todo_is : map step_todo new ++ entries_todo index more ≡ map step_todo now ++ entry_todo index o (entries_todo index more)

step-on : (s t : ItemsLeft) (more ds : Items) (last : Option (List ℕ)) (index : ℕ) (block : List ℕ) (now new : List Step) (r : Bor (List ℕ) × Node) (o : Option (List ℕ × Data)) → s.block.now ≡ block → EntryNext s ds o (Some r) t → rises last r.0.now ≡ true
    → ((d : Data) → Lies block r.0.now r.1 d → map step_todo new ≡ map step_todo now ++ give r.0.now d index ∷ []) → StepOn more ds last index block now new r.0.now o t
step-on s t more ds last index block now new r None here is up adds = absurd is
step-on s t more ds last index block now new r (Some e) here is up adds =
    let key = is.key in
    let above : rises last e.0 ≡ true = ap (rises last) (sym key) ∙ up in
    record {
      goes = λ i. above i && are_entries more (Some (sym key i));
      left = is.left;
      here = is.same_block ∙ here;
      todo_is = ap (λ (ts : List Todo). ts ++ entries_todo index more) (adds e.1 (entry-lies s t ds block e r here is))
          ∙ append_assoc (map step_todo now) (give r.0.now e.1 index ∷ []) (entries_todo index more)
          ∙ (λ i. map step_todo now ++ give (key i) e.1 index ∷ entries_todo index more);
    }

pub entries-on : (s t : ItemsLeft) (es ds : Items) (last : Option (List ℕ)) (left index : ℕ) (block : List ℕ) (old now new : List Step) (r : Bor (List ℕ) × Node) → EntriesRead s es ds last left index block old now → 0 < left → GivesEntry s (Some r) t
    → rises last r.0.now ≡ true → ((d : Data) → Lies block r.0.now r.1 d → map step_todo new ≡ map step_todo now ++ give r.0.now d index ∷ []) → EntriesRead t es ds (Some r.0.now) (left - 1) index block old new
entries-on s t es ds last left index block old now new r l lt gives up adds = let many = l.many in by l.more l.has (omega (arith, many, lt)) l.same l.todo_is
  where
    by : (more : Items) → HasItems s (chain more ds) → length (items_list more) ≡ suc (left - 1) → are_entries es None ≡ are_entries more last
        → map step_todo now ++ entries_todo index more ≡ map step_todo old ++ entries_todo index es → EntriesRead t es ds (Some r.0.now) (left - 1) index block old new
    by no_items has many same todo = absurd (omega arith)
    by (item d more) has many same todo =
        let on = step-on s t more (chain more ds) last index block now new r (entry_in d) l.here (gives d (chain more ds) has) up adds in
        record { more = more; has = on.left; many = omega arith; same = same ∙ on.goes; here = on.here; todo_is = on.todo_is ∙ todo }

no-adds : (wanted : Bool) (todo : List Todo) (block : List ℕ) (ds : Items) (old : List Step) (t : ItemsLeft) (new : List Step) → false ≡ wanted → Adds wanted todo block ds old false t new
no-adds wanted todo block ds old t new no_entry = record { same = no_entry; added = λ said. absurd (false≢true said) }

pub entries-down : (s t : ItemsLeft) (es ds : Items) (last : Option (List ℕ)) (left index : ℕ) (block : List ℕ) (old now new : List Step) (r : Bor (List ℕ) × Node) → EntriesRead s es ds last left index block old now → 0 < left → GivesEntry s (Some r) t
    → rises last r.0.now ≡ false → Adds (are_entries es None) (entries_todo index es) block ds old false t new
entries-down s t es ds last left index block old now new r l lt gives down =
    no-adds (are_entries es None) (entries_todo index es) block ds old t new (entries-fall s t es ds last left r (ahead s es ds last left index block old now l) lt gives down).same

pub entries-missed : (s t : ItemsLeft) (es ds : Items) (last : Option (List ℕ)) (left index : ℕ) (block : List ℕ) (old now new : List Step) → EntriesRead s es ds last left index block old now → 0 < left → GivesEntry s None t
    → Adds (are_entries es None) (entries_todo index es) block ds old false t new
entries-missed s t es ds last left index block old now new l lt gives =
    no-adds (are_entries es None) (entries_todo index es) block ds old t new (entries-miss s t es ds last left (ahead s es ds last left index block old now l) lt gives).same

pub entries-end : (s : ItemsLeft) (es ds : Items) (last : Option (List ℕ)) (left index : ℕ) (block : List ℕ) (old now : List Step) → EntriesRead s es ds last left index block old now → left ≡ 0
    → Adds (are_entries es None) (entries_todo index es) block ds old true s now
entries-end s es ds last left index block old now l none = let many = l.many in by l.more l.has (many ∙ none) l.same l.todo_is
  where
    by : (more : Items) → HasItems s (chain more ds) → length (items_list more) ≡ 0 → are_entries es None ≡ are_entries more last → map step_todo now ++ entries_todo index more ≡ map step_todo old ++ entries_todo index es
        → Adds (are_entries es None) (entries_todo index es) block ds old true s now
    by no_items has many same todo = record { same = sym same; added = λ said. record { left = has; here = l.here; todo_is = sym (append-nil (map step_todo now)) ∙ todo } }
    by (item d more) has many same todo = absurd (omega arith)

-- ---- all elements

pub record ElementsRead (p : HamtShape) (s : ItemsLeft) (ones : List ℕ) (i : ℕ) (block : List ℕ) (ds : Items) (old now : List Step) : Type 0 where
  pub more : Items
  pub left : HasItems s more
  pub here : s.block.now ≡ block
  pub same : elements_fit p.bucket (map_bits ones 0 (2 ^ p.width)) ds ≡ elements_fit p.bucket (map_bits ones i (2 ^ p.width - i)) more
  pub todo_is : map step_todo now ++ elements_todo i (map_bits ones i (2 ^ p.width - i)) more ≡ map step_todo old ++ elements_todo 0 (map_bits ones 0 (2 ^ p.width)) ds

pub elements-first : (p : HamtShape) (s : ItemsLeft) (ones : List ℕ) (block : List ℕ) (ds : Items) (old : List Step) → HasItems s ds → s.block.now ≡ block → ElementsRead p s ones 0 block ds old old
elements-first p s ones block ds old left here =
    let whole : 2 ^ p.width ≡ 2 ^ p.width - 0 = omega arith in
    record {
      more = ds;
      left = left;
      here = here;
      same = ap (λ n. elements_fit p.bucket (map_bits ones 0 n) ds) whole;
      todo_is = ap (λ n. map step_todo old ++ elements_todo 0 (map_bits ones 0 n) ds) (sym whole);
    }

bits-more : (n : ℕ) (ones : List ℕ) (i : ℕ) → i < n → map_bits ones i (n - i) ≡ map_bit ones i ∷ map_bits ones (i + 1) (n - (i + 1))
bits-more n ones i lt = let e : n - i ≡ suc (n - (i + 1)) = omega arith in ap (map_bits ones i) e

bits-done : (n : ℕ) (ones : List ℕ) (i : ℕ) → n ≤ i → map_bits ones i (n - i) ≡ []
bits-done n ones i le = let e : n - i ≡ 0 = omega arith in ap (map_bits ones i) e

record SlotOn (p : HamtShape) (s : ItemsLeft) (b : Bool) (i : ℕ) (bits : List Bool) (block : List ℕ) (more : Items) (now : List Step) (t : ItemsLeft) (new : List Step) : Type 0 where
  pub rest : Items
  pub left : HasItems t rest
  pub here : t.block.now ≡ block
  pub same : elements_fit p.bucket (b ∷ bits) more ≡ elements_fit p.bucket bits rest
  pub todo_is : map step_todo new ++ elements_todo (i + 1) bits rest ≡ map step_todo now ++ elements_todo i (b ∷ bits) more

slot-on : (p : HamtShape) (s t : ItemsLeft) (b : Bool) (i : ℕ) (bits : List Bool) (block : List ℕ) (more : Items) (now new : List Step) (r : Bool) → HasItems s more → s.block.now ≡ block → SlotAdds p b i block more s now r t new → r ≡ true → SlotOn p s b i bits block more now t new
slot-on p s t false i bits block more now new r has here adds said = record {
  rest = more;
  left = subst (λ (x : ItemsLeft). HasItems x more) (sym adds.1) has;
  here = ap (λ (x : ItemsLeft). x.block.now) adds.1 ∙ here;
  same = refl;
  todo_is = ap (λ (xs : List Step). map step_todo xs ++ elements_todo (i + 1) bits more) adds.2;
}
slot-on p s t true i bits block no_items now new r has here adds said = absurd (false≢true (sym adds ∙ said))
slot-on p s t true i bits block (item d more) now new r has here adds said =
    let a = adds.added said in
    record {
      rest = more;
      left = a.left;
      here = a.here;
      same = ap (λ c. c && elements_fit p.bucket bits more) (sym adds.same ∙ said);
      todo_is = ap (λ (ts : List Todo). ts ++ elements_todo (i + 1) bits more) a.todo_is ∙ append_assoc (map step_todo now) (element_todo i d) (elements_todo (i + 1) bits more);
    }

pub elements-on : (p : HamtShape) (s t : ItemsLeft) (ones : List ℕ) (i : ℕ) (block : List ℕ) (ds : Items) (old now new : List Step) (r : Bool) → ElementsRead p s ones i block ds old now → i < 2 ^ p.width
    → ((more : Items) → HasItems s more → SlotAdds p (map_bit ones i) i block more s now r t new) → r ≡ true → ElementsRead p t ones (i + 1) block ds old new
elements-on p s t ones i block ds old now new r l lt adds said =
    let bits = map_bits ones (i + 1) (2 ^ p.width - (i + 1)) in
    let on = slot-on p s t (map_bit ones i) i bits block l.more now new r l.left l.here (adds l.more l.left) said in
    let cut = bits-more (2 ^ p.width) ones i lt in
    record {
      more = on.rest;
      left = on.left;
      here = on.here;
      same = l.same ∙ ap (λ bs. elements_fit p.bucket bs l.more) cut ∙ on.same;
      todo_is = on.todo_is ∙ ap (λ bs. map step_todo now ++ elements_todo i bs l.more) (sym cut) ∙ l.todo_is;
    }

slot-off : (p : HamtShape) (s t : ItemsLeft) (b : Bool) (i : ℕ) (bits : List Bool) (block : List ℕ) (more : Items) (now new : List Step) (r : Bool) → SlotAdds p b i block more s now r t new → r ≡ false → elements_fit p.bucket (b ∷ bits) more ≡ false
slot-off p s t false i bits block more now new r adds said = absurd (false≢true (sym said ∙ adds.0))
slot-off p s t true i bits block no_items now new r adds said = refl
slot-off p s t true i bits block (item d more) now new r adds said = ap (λ c. c && elements_fit p.bucket bits more) (sym adds.same ∙ said)

pub elements-off : (p : HamtShape) (s t : ItemsLeft) (ones : List ℕ) (i : ℕ) (block : List ℕ) (ds : Items) (old now new : List Step) (r : Bool) → ElementsRead p s ones i block ds old now → i < 2 ^ p.width
    → ((more : Items) → HasItems s more → SlotAdds p (map_bit ones i) i block more s now r t new) → r ≡ false → ReadsElements p ones ds old false new
elements-off p s t ones i block ds old now new r l lt adds said =
    let bits = map_bits ones (i + 1) (2 ^ p.width - (i + 1)) in
    record {
      same = sym (l.same ∙ ap (λ bs. elements_fit p.bucket bs l.more) (bits-more (2 ^ p.width) ones i lt) ∙ slot-off p s t (map_bit ones i) i bits block l.more now new r (adds l.more l.left) said);
      added = λ yes. absurd (false≢true yes);
    }

pub elements-end : (p : HamtShape) (s t : ItemsLeft) (ones : List ℕ) (i : ℕ) (block : List ℕ) (ds : Items) (old now : List Step) (o : Option Node) (r : Bool) → ElementsRead p s ones i block ds old now → 2 ^ p.width ≤ i → ItemsGive s o t → r ≡ is_none o → ReadsElements p ones ds old r now
elements-end p s t ones i block ds old now o r l le gives is =
    let cut = bits-done (2 ^ p.width) ones i le in
    by l.more o l.left (l.same ∙ ap (λ bs. elements_fit p.bucket bs l.more) cut) (ap (λ bs. map step_todo now ++ elements_todo i bs l.more) (sym cut) ∙ l.todo_is) gives is
  where
    by : (more : Items) (o : Option Node) → HasItems s more → elements_fit p.bucket (map_bits ones 0 (2 ^ p.width)) ds ≡ elements_fit p.bucket [] more → map step_todo now ++ [] ≡ map step_todo old ++ elements_todo 0 (map_bits ones 0 (2 ^ p.width)) ds
        → ItemsGive s o t → r ≡ is_none o → ReadsElements p ones ds old r now
    by no_items None has same todo gives is = record { same = is ∙ sym same; added = λ yes. sym (append-nil (map step_todo now)) ∙ todo }
    by no_items (Some n) has same todo gives is = absurd (gives no_items has)
    by (item d more) None has same todo gives is = absurd (gives (item d more) has)
    by (item d more) (Some n) has same todo gives is = record { same = is ∙ sym same; added = λ yes. absurd (false≢true (sym is ∙ yes)) }

-- ---- the parts of a node

pub parts-in : (n : Node) (t : Data) (a b : Node) (m : Bor (List ℕ)) (it : ItemsLeft) → FindsPair n t (Some (a, b)) → ((d : Data) → HasData a d → Some m.now ≡ bytes_of d) → ((d : Data) → HasData b d → FindsItems b (items_of d) (Some it)) → PartsIn n t (m, it)
parts-in n t a b m it finds keys items =
    let p = parts-of n t a b m.now it (pair-found n t (Some (a, b)) finds) keys items in
    record { parts = p.parts; pair = p.pair; has = p.items.left; here = p.items.block_is ∙ p.elements.block_is }

pub no-parts : (p : HamtShape) (n : Node) (t : Data) (a b : Node) → FindsPair n t (Some (a, b)) → ((d : Data) → HasData b d → FindsItems b (items_of d) None) → node_fits p t ≡ false
no-parts p n t a b finds items = not-listed p n t a b None (λ v. Unit {0}) (pair-found n t (Some (a, b)) finds) items refl

and-false : (b : Bool) → (b && false) ≡ false
and-false true = refl
and-false false = refl

pub no-node : (p : HamtShape) (t : Data) (ones : List ℕ) (parts : Items) (r : Bool) → pair_in t ≡ Some (bytes ones, list parts) → r ≡ elements_fit p.bucket (map_bits ones 0 (2 ^ p.width)) parts → r ≡ false → node_fits p t ≡ false
no-node p t ones parts r pair is off = ap (pair_fits p) pair ∙ ap (λ b. (length ones == 2 ^ p.width / 8) && b) (sym is ∙ off) ∙ and-false (length ones == 2 ^ p.width / 8)

pub is-node : (p : HamtShape) (t : Data) (ones : List ℕ) (parts : Items) (r : Bool) → pair_in t ≡ Some (bytes ones, list parts) → length ones ≡ 2 ^ p.width / 8 → r ≡ elements_fit p.bucket (map_bits ones 0 (2 ^ p.width)) parts → r ≡ true → node_fits p t ≡ true
is-node p t ones parts r pair long is on = ap (pair_fits p) pair ∙ and_from (length ones == 2 ^ p.width / 8) (elements_fit p.bucket (map_bits ones 0 (2 ^ p.width)) parts) (eq-eqb (length ones) (2 ^ p.width / 8) long) (sym is ∙ on)

-- ---- the steps of slots

entries-are : (i : ℕ) (es : List (List ℕ × Data)) → AllByRecursion (λ (e : List ℕ × Data). IsUtf8 e.0) es → entries_todo i (items_from (map entry_data es)) ≡ map (λ e. give e.0 e.1 i) es
entries-are i [] all = refl
entries-are i (e ∷ es) all = ap (λ o. entry_todo i o (entries_todo i (items_from (map entry_data es)))) (entry-read e all.0) ∙ ap (λ ts. give e.0 e.1 i ∷ ts) (entries-are i es all.1)

slots-are : (p : HamtShape) (i : ℕ) (slots : List TrieSlot) → AllByRecursion (IsSlot p) slots → elements_todo i (map is_used slots) (items_from (flat_map elements_of slots)) ≡ node_todo i slots
slots-are p i [] all = refl
slots-are p i (empty ∷ slots) all = slots-are p (i + 1) slots all.1
slots-are p i (bucket es ∷ slots) all = let here = entries-are i es all.0.3 in let more = slots-are p (i + 1) slots all.1 in (λ k. here k ++ more k)
slots-are p i (child id ∷ slots) all = let here = id-read id all.0.0 in let more = slots-are p (i + 1) slots all.1 in (λ k. element_by i None (here k) ++ more k)

-- the steps of what was read are those of the node's slots
pub node-steps : (p : HamtShape) (t : Data) (ones : List ℕ) (parts : Items) (slots : List TrieSlot) → pair_in t ≡ Some (bytes ones, list parts) → t ≡ node_data slots → IsNode p slots → elements_todo 0 (map_bits ones 0 (2 ^ p.width)) parts ≡ node_todo 0 slots
node-steps p t ones parts slots pair is form =
    let same = same_pair ones (map_of slots) parts (items_from (flat_map elements_of slots)) (sym pair ∙ ap pair_in is) in
    let bits : map_bits (map_of slots) 0 (2 ^ p.width) ≡ map is_used slots =
    ap (map_bits (map_of slots) 0) (sym form.many) ∙ bits-read slots (whole_map p.width (length slots) p.wide form.many) in
    (λ k. elements_todo 0 (map_bits (same.0 k) 0 (2 ^ p.width)) (same.1 k)) ∙ ap (λ bs. elements_todo 0 bs (items_from (flat_map elements_of slots))) bits ∙ slots-are p 0 slots form.each

pub steps-done : (p : HamtShape) (t : Data) (ones : List ℕ) (parts : Items) (slots : List TrieSlot) (old now new : List Step) → pair_in t ≡ Some (bytes ones, list parts) → old ≡ [] → map step_todo now ≡ map step_todo old ++ elements_todo 0 (map_bits ones 0 (2 ^ p.width)) parts
    → new ≡ reverse now → t ≡ node_data slots → IsNode p slots → steps_todo new ≡ node_todo 0 slots
steps-done p t ones parts slots old now new pair none adds turned is form =
    steps-turned now new turned ∙ adds ∙ ap (λ (xs : List Step). map step_todo xs ++ elements_todo 0 (map_bits ones 0 (2 ^ p.width)) parts) none ∙ node-steps p t ones parts slots pair is form
