-- What is read as a root is one.
use Rattle.std.proofs.Common.{◌≡◌, ℕ, ℤ, Bool, true, false, not, IsTrue, List, Option, Some, None, is_some, refl, sym, ap, ◌∙◌, subst}
use Rattle.std.specs.Prelude.{pos, codes, option_and_then, ◌↔◌, length}
use Rattle.std.proofs.Common.{arith}
use Rattle.std.proofs.lemmas.List.{length-append}
use Rattle.std.specs.Borrow.{Bor}
use Rattle.std.proofs.lemmas.Bool.{false≢true, not-true, false_from_ne_true, not_from_false}
use Rattle.ild_data.specs.Data.{Data, integer, map as map_data, Members, no_members, member, members_list}
use Rattle.ild_data.specs.Spell.{head, spell_text}
use Rattle.ild_cbor.specs.declared.node.Node.{Node}
use Rattle.ild_cbor.specs.declared.pairs.Pairs.{Pairs}
use Rattle.ild_cbor.specs.Nodes.{HasData, Finds, IsPart}
use Rattle.ild_cbor.specs.Scalar.{int_of}
use Rattle.ild_cbor.specs.Span.{entry_of, place_of}
use Rattle.ild_cbor.specs.Steps.{HasEntries, IteratesEntries, FindsEntries, EntryStep, EntriesGive, members_of as map_members}
use Rattle.ild_data.specs.declared.hamt_shape.HamtShape.{HamtShape}
use Rattle.ild_typed.specs.Hamt.{root_map}
use Rattle.ild_data.specs.Trie.{TrieSlot, node_data}
use Rattle.ild_cbor.specs.declared.why.Why.{Why}
use Rattle.std.specs.Prelude.{Result, Ok, Err, IfOk}
use Rattle.ild_node_slots.specs.Views.{HasSlots, view_node}
use Rattle.ild_node_slots.specs.declared.view.NodeView.{NodeView}
use Rattle.ild_node_slots.specs.Form.{hash_alg, bucket_size}
use Rattle.ild_node_slots.specs.Roots.{IsNext, NextOf, HasOtherInt, IsRootView}

-- ---- integers

int_is : (d : Data) (n : ℤ) → int_of d ≡ Some n → d ≡ integer n
int_is (integer k) n is = let same : k ≡ n = cc in ap integer same
int_is d n is = absurd cc

pub not-other : (t : Data) (key : List ℕ) (n : ℕ) → option_and_then int_of (entry_of t key) ≡ Some (pos n) → HasOtherInt t key n → ⊥
not-other t key n is other = other.other (let e : Some other.found ≡ Some (pos n) = sym other.is ∙ is in let f : other.found ≡ pos n = cc in f)

pub other-int : (n : Node) (place : ℕ) (t : Data) (key : List ℕ) (wanted : ℕ) (m : Node) (b : Bool) → Finds n place (entry_of t key) (Some m) → ((u : Data) → HasData m u → (k : ℤ) × (int_of u ≡ Some k))
    → ((u : Data) → HasData m u → IsTrue b ↔ (int_of u ≡ Some (pos wanted))) → IsTrue (not b) ↔ HasOtherInt t key wanted
other-int n place t key wanted m b finds ints tells = by (entry_of t key) refl finds
  where
    by_value : (u : Data) → entry_of t key ≡ Some u → HasData m u → IsTrue (not b) ↔ HasOtherInt t key wanted
    by_value u is stands =
        let k = ints u stands in
        let iff = tells u stands in
        let at : option_and_then int_of (entry_of t key) ≡ Some k.0 = ap (option_and_then int_of) is ∙ k.1 in (
          (λ off. record { found = k.0; is = at; other = λ same. false≢true (sym (not-true b off) ∙ iff.1 (k.1 ∙ ap Some same)) }),
          (λ other. not_from_false b (false_from_ne_true b (λ on. not-other t key wanted (at ∙ sym k.1 ∙ iff.0 on) other))),
        )

    by : (o : Option Data) → o ≡ entry_of t key → Finds n place o (Some m) → IsTrue (not b) ↔ HasOtherInt t key wanted
    by None is finds = absurd finds
    by (Some u) is finds = by_value u (sym is) finds.stands

-- ---- the entries

pub root-same : (p : HamtShape) (d e : Data) → root_map p d ≡ root_map p e → d ≡ e
root-same p d e is = cc

pub no-more : (s t : Pairs) (r : Option (Bor (List ℕ) × Node)) → EntryStep s no_members r t → is_some r ≡ true → ⊥
no-more s t None step is = false≢true is
no-more s t (Some x) step is = step

record FirstOf (s : Pairs) (ms : Members) (key : List ℕ) (n : Node) (t : Pairs) : Type 0 where
  pub value : Data
  pub rest : Members
  pub is : ms ≡ member key value rest
  pub next : IsNext s key value rest key n t

first_of_all : (s : Pairs) (ms : Members) (key : List ℕ) (n : Node) (t : Pairs) → NextOf s ms key (Some n) t → FirstOf s ms key n t
first_of_all s no_members key n t next = absurd next
first_of_all s (member k d ms) key n t next = record {
  value = d;
  rest = ms;
  is = ap (λ x. member x d ms) next.key_is;
  next = subst (λ (x : List ℕ). IsNext s x d ms key n t) next.key_is next;
}

no_rest : (s t : Pairs) (ms : Members) (r : Option (Bor (List ℕ) × Node)) → EntryStep s ms r t → is_some r ≡ false → ms ≡ no_members
no_rest s t no_members r step is = refl
no_rest s t (member k d ms) None step is = absurd step
no_rest s t (member k d ms) (Some x) step is = absurd (false≢true (sym is))

map_of : (t : Data) (n : Node) (s : Pairs) → FindsEntries n (map_members t) (Some s) → (ms : Members) × (t ≡ map_data ms) × IteratesEntries n ms s
map_of (map_data ms) n s finds = (ms, refl, finds)
map_of t n s finds = absurd finds

-- the first value of a map
first_part : (n m : Node) (s t : Pairs) (k : List ℕ) (d : Data) (ms : Members) → IteratesEntries n (member k d ms) s → IsNext s k d ms k m t → IsPart n m (place_of (map_data (member k d ms)) 0) d
first_part n m s t k d ms it next = record {
  stands = next.stands;
  block_is = next.block_is ∙ it.block_is;
  start_is = let a = next.start_is in let b = it.place in let c = length-append (head 5 (length (members_list (member k d ms)))) (spell_text k) in omega arith;
}

pub root-found : (p : HamtShape) (t : Data) (n : Node) (s0 s1 s2 s3 s4 : Pairs) (item hash bucket : Node) (r : Option (Bor (List ℕ) × Node)) → FindsEntries n (map_members t) (Some s0)
    → ((ms : Members) → HasEntries s0 ms → NextOf s0 ms (codes "hamt") (Some item) s1) → ((ms : Members) → HasEntries s1 ms → NextOf s1 ms hash_alg (Some hash) s2)
    → ((ms : Members) → HasEntries s2 ms → NextOf s2 ms bucket_size (Some bucket) s3) → EntriesGive s3 r s4 → is_some r ≡ false
    → ((d : Data) → HasData hash d → int_of d ≡ Some (pos 18)) → ((d : Data) → HasData bucket d → int_of d ≡ Some (pos p.bucket)) → (d : Data) × (t ≡ root_map p d) × IsPart n item (place_of t 0) d
root-found p t n s0 s1 s2 s3 s4 item hash bucket r finds next0 next1 next2 gives ends eighteen size =
    let m = map_of t n s0 finds in
    let a = first_of_all s0 m.0 (codes "hamt") item s1 (next0 m.0 m.2.left) in
    let b = first_of_all s1 a.rest hash_alg hash s2 (next1 a.rest a.next.left) in
    let c = first_of_all s2 b.rest bucket_size bucket s3 (next2 b.rest b.next.left) in
    let z = no_rest s3 s4 c.rest r (gives c.rest c.next.left) ends in
    let x = int_is b.value (pos 18) (eighteen b.value b.next.stands) in
    let y = int_is c.value (pos p.bucket) (size c.value c.next.stands) in
    let last : b.rest ≡ member bucket_size (integer (pos p.bucket)) no_members = c.is ∙ (λ i. member bucket_size (y i) (z i)) in
    let middle : a.rest ≡ member hash_alg (integer (pos 18)) (member bucket_size (integer (pos p.bucket)) no_members) = b.is ∙ (λ i. member hash_alg (x i) (last i)) in
    let whole : t ≡ map_data (member (codes "hamt") a.value a.rest) = m.1 ∙ ap map_data a.is in (
      a.value,
      whole ∙ ap (λ ms. map_data (member (codes "hamt") a.value ms)) middle,
      subst (λ (u : Data). IsPart n item (place_of u 0) a.value) (sym whole)
          (first_part n item s0 s1 (codes "hamt") a.value a.rest (subst (λ (ms : Members). IteratesEntries n ms s0) a.is m.2) a.next),
    )

-- the view of a root's node
pub root-parts : (p : HamtShape) (t d : Data) (n item : Node) (r : Result NodeView Why) → t ≡ root_map p d → IsPart n item (place_of t 0) d
    → IfOk r (λ v. (slots : List TrieSlot) × (d ≡ node_data slots) × HasSlots p v slots) → IfOk r (λ v. view_node v ≡ item)
    → IfOk r (IsRootView p n t)
root-parts p t d n item (Err e) is part found same = tt
root-parts p t d n item (Ok v) is part found same = (
  found.0,
  record { indices = found.2.form.many; each = found.2.form.each; tree = is ∙ ap (root_map p) found.1 },
  found.2,
  subst (λ (m : Node). IsPart n m (place_of t 0) (node_data found.0)) (sym same) (subst (λ (u : Data). IsPart n item (place_of t 0) u) found.1 part),
)
