-- Steps of the loops over the items of buckets and nodes.
use Rattle.std.proofs.Common.{◌≡◌, ℕ, zero, suc, ◌+◌, ◌-◌, ◌<◌, ◌≤◌, ◌&&◌, Bool, true, false, not, cond, List, [], ◌∷◌, length, map, drop, Option, Some, None, refl, sym, ap, ◌∙◌, subst, arith}
use Rattle.std.specs.Prelude.{slice_get}
use Rattle.std.specs.Option.{is_none}
use Rattle.std.specs.Ordering.{eq_by_cmp}
use Rattle.std.specs.FinMap.{find}
use Rattle.std.proofs.lemmas.Bool.{false_from_ne_true, false≢true}
use Rattle.ild_data.proofs.Gets.{next_is}
use Rattle.ild_data.specs.Data.{Data, bytes, Items, no_items, item}
use Rattle.ild_cbor.specs.declared.node.Node.{Node}
use Rattle.ild_cbor.specs.declared.items.Items.{Items as ItemsLeft}
use Rattle.ild_cbor.specs.Nodes.{HasData, IsPart}
use Rattle.ild_cbor.specs.Scalar.{bytes_of}
use Rattle.ild_cbor.specs.Span.{place_of}
use Rattle.ild_cbor.specs.Steps.{HasItems, ItemsGive}
use Rattle.ild_data.specs.ByteOrder.{bytewise}
use Rattle.ild_data.specs.Trie.{entry_data}
use Rattle.ild_hamt_trie.proofs.Parts.{same_key, key_itself}
use Rattle.ild_node_slots.specs.Form.{bucket_data}
use Rattle.ild_typed.specs.NodeReading.{pair_in, elements_fit, map_bit, map_bits}
use Rattle.ild_node_slots.specs.Items.{IsAtItem}
use Rattle.ild_node_slots.specs.inside.Parts.{PairIs}
use Rattle.ild_node_slots.specs.Places.{value_place}
use Rattle.ild_node_slots.specs.Told.{ElementTold}
use Rattle.ild_node_slots.specs.Views.{ValueIn}
use Rattle.ild_node_slots.proofs.Iter.{part-of, iter-step, iter-end}

-- ---- the value at a key

-- the iterator stands at an entry before which none has the key
pub record ValuesLeft (b : Node) (s : ItemsLeft) (key : List ℕ) (es : List (List ℕ × Data)) : Type 0 where
  pub at : ℕ
  pub iter : IsAtItem b (map entry_data es) at s
  pub same : find bytewise key es ≡ find bytewise key (drop at es)

pub values-first : (b : Node) (s : ItemsLeft) (key : List ℕ) (es : List (List ℕ × Data)) → IsAtItem b (map entry_data es) 0 s → ValuesLeft b s key es
values-first b s key es at = record { at = 0; iter = at; same = refl }

-- the entry of an item
record EntryAt (es : List (List ℕ × Data)) (k : ℕ) (d : Data) : Type 0 where
  pub e : List ℕ × Data
  pub is : d ≡ entry_data e
  pub found : slice_get es k ≡ Some e
  pub here : drop k es ≡ e ∷ drop (suc k) es

entry-at : (es : List (List ℕ × Data)) (k : ℕ) (d : Data) → slice_get (map entry_data es) k ≡ Some d → EntryAt es k d
entry-at [] k d is = absurd cc
entry-at (e ∷ es) zero d is = let same : entry_data e ≡ d = some_same (entry_data e) d is in record { e = e; is = sym same; found = refl; here = refl }
  where
    some_same : (a b : Data) → ◌≡◌ {A = Option Data} (Some a) (Some b) → a ≡ b
    some_same a b is = cc
entry-at (e ∷ es) (suc k) d is = let r = entry-at es k d is in record { e = r.e; is = r.is; found = r.found; here = r.here }

abbrev pub Halves : Node → Option (Node × Node) → Type 0
Halves n r = (d : Data) → HasData n d → PairIs n d (pair_in d) r

not_key : (key k : List ℕ) → (k ≡ key → ⊥) → eq_by_cmp bytewise key k ≡ false
not_key key k apart = false_from_ne_true _ (λ e. apart (sym (same_key key k e)))

pub value-step : (b : Node) (s t : ItemsLeft) (n : Node) (key : List ℕ) (es : List (List ℕ × Data)) (r : Node × Node) → ValuesLeft b s key es → ItemsGive s (Some n) t → Halves n (Some r)
    → ((d : Data) → HasData r.0 d → bytes_of d ≡ Some key → ⊥) → ValuesLeft b t key es
value-step b s t n key es r l gives reads apart =
    let step = iter-step b (map entry_data es) l.at s t n l.iter gives in
    let e = entry-at es l.at step.of step.is in
    let halves = reads (entry_data e.e) (subst (λ (d : Data). HasData n d) e.is step.part.stands) in
    record {
      at = l.at + 1;
      iter = step.next;
      same = l.same ∙ ap (find bytewise key) e.here
          ∙ ap (λ c. cond c (Some e.e.1) (find bytewise key (drop (suc l.at) es))) (not_key key e.e.0 (λ is. apart (bytes e.e.0) halves.0.stands (ap Some is)))
          ∙ ap (λ k. find bytewise key (drop k es)) (next_is l.at);
    }

pub value-here : (b : Node) (s t : ItemsLeft) (n : Node) (key : List ℕ) (es : List (List ℕ × Data)) (r : Node × Node) → ValuesLeft b s key es → ItemsGive s (Some n) t → Halves n (Some r)
    → ((d : Data) → HasData r.0 d → bytes_of d ≡ Some key) → ValueIn b es key (find bytewise key es) (Some r.1)
value-here b s t n key es r l gives reads found =
    let step = iter-step b (map entry_data es) l.at s t n l.iter gives in
    let e = entry-at es l.at step.of step.is in
    let halves = reads (entry_data e.e) (subst (λ (d : Data). HasData n d) e.is step.part.stands) in
    let keys : e.e.0 ≡ key = some_key e.e.0 key (found (bytes e.e.0) halves.0.stands) in
    let is : find bytewise key es ≡ Some e.e.1 =
    l.same ∙ ap (find bytewise key) e.here
    ∙ ap (λ c. cond c (Some e.e.1) (find bytewise key (drop (suc l.at) es))) (ap (eq_by_cmp bytewise key) keys ∙ key_itself key) in
    subst (λ (o : Option Data). ValueIn b es key o (Some r.1)) (sym is) (record {
      at = l.at;
      entry = e.found ∙ ap (λ k. Some (k, e.e.1)) keys;
      part = subst (λ (k : List ℕ). IsPart b r.1 (value_place es l.at (k, e.e.1)) e.e.1) keys
          (part-of b n r.1 _ _ (entry_data e.e) e.e.1 (subst (λ (d : Data). IsPart b n (place_of (bucket_data es) l.at) d) e.is step.part) halves.1);
    })
  where
    some_key : (a b : List ℕ) → ◌≡◌ {A = Option (List ℕ)} (Some a) (Some b) → a ≡ b
    some_key a b is = cc

-- an item of a bucket is a pair
pub value-missing : (b : Node) (s t : ItemsLeft) (n : Node) (key : List ℕ) (es : List (List ℕ × Data)) → ValuesLeft b s key es → ItemsGive s (Some n) t → Halves n None → ⊥
value-missing b s t n key es l gives reads =
    let step = iter-step b (map entry_data es) l.at s t n l.iter gives in
    let e = entry-at es l.at step.of step.is in
    reads (entry_data e.e) (subst (λ (d : Data). HasData n d) e.is step.part.stands)

past_all : (key : List ℕ) (es : List (List ℕ × Data)) (k : ℕ) → length (map entry_data es) ≤ k → find bytewise key (drop k es) ≡ None
past_all key [] zero le = refl
past_all key [] (suc k) le = refl
past_all key (e ∷ es) zero le = absurd (omega arith)
past_all key (e ∷ es) (suc k) le = past_all key es k (omega arith)

pub value-done : (b : Node) (s t : ItemsLeft) (key : List ℕ) (es : List (List ℕ × Data)) → ValuesLeft b s key es → ItemsGive s None t → ValueIn b es key (find bytewise key es) None
value-done b s t key es l gives =
    subst (λ (o : Option Data). ValueIn b es key o None) (sym (l.same ∙ past_all key es l.at (iter-end b (map entry_data es) l.at s t l.iter gives))) tt

-- ---- the elements of a node

-- what is left of the elements fits the bits from i on
pub record ElementsLeft (s : ItemsLeft) (most : ℕ) (ones : List ℕ) (slots i : ℕ) (ds : Items) : Type 0 where
  pub more : Items
  pub left : HasItems s more
  pub same : elements_fit most (map_bits ones 0 slots) ds ≡ elements_fit most (map_bits ones i (slots - i)) more

bits_more : (ones : List ℕ) (slots i : ℕ) → i < slots → map_bits ones i (slots - i) ≡ map_bit ones i ∷ map_bits ones (i + 1) (slots - (i + 1))
bits_more ones slots i lt = let e : slots - i ≡ suc (slots - (i + 1)) = omega arith in ap (map_bits ones i) e

bits_done : (ones : List ℕ) (slots i : ℕ) → slots ≤ i → map_bits ones i (slots - i) ≡ []
bits_done ones slots i le = let e : slots - i ≡ 0 = omega arith in ap (map_bits ones i) e

pub elements_skip : (s : ItemsLeft) (most : ℕ) (ones : List ℕ) (slots i : ℕ) (ds : Items) → ElementsLeft s most ones slots i ds → i < slots → map_bit ones i ≡ false → ElementsLeft s most ones slots (i + 1) ds
elements_skip s most ones slots i ds l lt off = record {
  more = l.more;
  left = l.left;
  same = l.same ∙ ap (λ bits. elements_fit most bits l.more) (bits_more ones slots i lt ∙ ap (λ b. b ∷ map_bits ones (i + 1) (slots - (i + 1))) off);
}

fit_on : (most : ℕ) (ones : List ℕ) (slots i : ℕ) (ds more : Items) → elements_fit most (map_bits ones 0 slots) ds ≡ elements_fit most (map_bits ones i (slots - i)) more → i < slots → map_bit ones i ≡ true
    → elements_fit most (map_bits ones 0 slots) ds ≡ elements_fit most (true ∷ map_bits ones (i + 1) (slots - (i + 1))) more
fit_on most ones slots i ds more same lt on =
    same ∙ ap (λ bits. elements_fit most bits more) (bits_more ones slots i lt ∙ ap (λ b. b ∷ map_bits ones (i + 1) (slots - (i + 1))) on)

element_step_at : (s t : ItemsLeft) (most : ℕ) (ones : List ℕ) (slots i : ℕ) (ds more : Items) (b : Bool) → HasItems s more → elements_fit most (map_bits ones 0 slots) ds ≡ elements_fit most (true ∷ map_bits ones (i + 1) (slots - (i + 1))) more
    → ((es : Items) → HasItems s es → ElementTold most es b t) → b ≡ true → ElementsLeft t most ones slots (i + 1) ds
element_step_at s t most ones slots i ds no_items b left same tells said = absurd (false≢true (sym (tells no_items left) ∙ said))
element_step_at s t most ones slots i ds (item d more) b left same tells said =
    let told = tells (item d more) left in
    record { more = more; left = told.left said; same = same ∙ ap (λ c. c && elements_fit most (map_bits ones (i + 1) (slots - (i + 1))) more) (sym told.same ∙ said) }

pub elements_step : (s t : ItemsLeft) (most : ℕ) (ones : List ℕ) (slots i : ℕ) (ds : Items) (b : Bool) → ElementsLeft s most ones slots i ds → i < slots → map_bit ones i ≡ true
    → ((es : Items) → HasItems s es → ElementTold most es b t) → b ≡ true → ElementsLeft t most ones slots (i + 1) ds
elements_step s t most ones slots i ds b l lt on tells said =
    element_step_at s t most ones slots i ds l.more b l.left (fit_on most ones slots i ds l.more l.same lt on) tells said

element_other_at : (s t : ItemsLeft) (most : ℕ) (ones : List ℕ) (slots i : ℕ) (ds more : Items) (b : Bool) → HasItems s more → elements_fit most (map_bits ones 0 slots) ds ≡ elements_fit most (true ∷ map_bits ones (i + 1) (slots - (i + 1))) more
    → ((es : Items) → HasItems s es → ElementTold most es b t) → b ≡ false → false ≡ elements_fit most (map_bits ones 0 slots) ds
element_other_at s t most ones slots i ds no_items b left same tells no_element = sym same
element_other_at s t most ones slots i ds (item d more) b left same tells no_element =
    sym (same ∙ ap (λ c. c && elements_fit most (map_bits ones (i + 1) (slots - (i + 1))) more) (sym (tells (item d more) left).same ∙ no_element))

pub elements_other : (s t : ItemsLeft) (most : ℕ) (ones : List ℕ) (slots i : ℕ) (ds : Items) (b : Bool) → ElementsLeft s most ones slots i ds → i < slots → map_bit ones i ≡ true
    → ((es : Items) → HasItems s es → ElementTold most es b t) → b ≡ false → false ≡ elements_fit most (map_bits ones 0 slots) ds
elements_other s t most ones slots i ds b l lt on tells no_element =
    element_other_at s t most ones slots i ds l.more b l.left (fit_on most ones slots i ds l.more l.same lt on) tells no_element

elements_end_at : (s t : ItemsLeft) (most : ℕ) (ds more : Items) (bits : List Bool) (o : Option Node) (b : Bool) → HasItems s more → elements_fit most bits ds ≡ elements_fit most [] more
    → ItemsGive s o t → b ≡ is_none o → b ≡ elements_fit most bits ds
elements_end_at s t most ds no_items bits None b left same gives is = is ∙ sym same
elements_end_at s t most ds no_items bits (Some n) b left same gives is = absurd (gives no_items left)
elements_end_at s t most ds (item d more) bits None b left same gives is = absurd (gives (item d more) left)
elements_end_at s t most ds (item d more) bits (Some n) b left same gives is = is ∙ sym same

pub elements_end : (s t : ItemsLeft) (most : ℕ) (ones : List ℕ) (slots i : ℕ) (ds : Items) (o : Option Node) (b : Bool) → ElementsLeft s most ones slots i ds → slots ≤ i
    → ItemsGive s o t → b ≡ is_none o → b ≡ elements_fit most (map_bits ones 0 slots) ds
elements_end s t most ones slots i ds o b l le gives is =
    elements_end_at s t most ds l.more (map_bits ones 0 slots) o b l.left (l.same ∙ ap (λ bits. elements_fit most bits l.more) (bits_done ones slots i le)) gives is

pub flipped : (a b : Bool) → a ≡ not b → b ≡ not a
flipped a true is = ap not (sym is)
flipped a false is = ap not (sym is)
