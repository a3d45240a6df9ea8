-- What is read as the parts of a root are its parts.
use Rattle.std.proofs.Common.{◌≡◌, ℕ, true, false, List, Option, Some, None, is_some, refl, sym, ap, ◌∙◌, ◌++◌, subst, arith}
use Rattle.std.specs.Prelude.{codes}
use Rattle.std.specs.Borrow.{Bor}
use Rattle.std.proofs.lemmas.Bool.{false≢true}
use Rattle.std.proofs.lemmas.List.{length-append}
use Rattle.ild_data.specs.Data.{Data, text, link, map as map_data, Members, no_members, member}
use Rattle.ild_data.specs.Spell.{cid_of, head, spell, spell_text}
use Rattle.ild_cbor.specs.declared.node.Node.{Node}
use Rattle.ild_cbor.specs.declared.pairs.Pairs.{Pairs}
use Rattle.ild_cbor.specs.Nodes.{HasData, IsPart}
use Rattle.ild_cbor.specs.Span.{place_of}
use Rattle.ild_cbor.specs.Scalar.{text_of}
use Rattle.ild_cbor.specs.Steps.{HasEntries, IteratesEntries, StepsOverEntry, FindsEntries, EntryStep, EntriesGive, members_of as map_members}
use Rattle.ild_named.specs.Named.{named_data}
use Rattle.ild_named.specs.inside.Next.{NextAt}

-- ---- entries

pub none_behind : (s t : Pairs) (r : Option (Bor (List ℕ) × Node)) → EntryStep s no_members r t → is_some r ≡ true → ⊥
none_behind s t None step is = false≢true is
none_behind s t (Some x) step is = step

record FirstOf (s : Pairs) (ms : Members) (key : List ℕ) (n : Node) (t : Pairs) : Type 0 where
  pub value : Data
  pub rest : Members
  pub is : ms ≡ member key value rest
  pub next : StepsOverEntry s key value rest key n t

first_of_all : (s : Pairs) (ms : Members) (key : List ℕ) (n : Node) (t : Pairs) → NextAt s ms key (Some n) t → FirstOf s ms key n t
first_of_all s no_members key n t next = absurd next
first_of_all s (member k d ms) key n t next = record {
  value = d;
  rest = ms;
  is = ap (λ x. member x d ms) (sym next.key_is);
  next = subst (λ (x : List ℕ). StepsOverEntry s x d ms key n t) (sym next.key_is) next;
}

no_rest : (s t : Pairs) (ms : Members) (r : Option (Bor (List ℕ) × Node)) → EntryStep s ms r t → is_some r ≡ false → ms ≡ no_members
no_rest s t no_members r step is = refl
no_rest s t (member k d ms) None step is = absurd step
no_rest s t (member k d ms) (Some x) step is = absurd (false≢true (sym is))

map_of : (t : Data) (n : Node) (s : Pairs) → FindsEntries n (map_members t) (Some s) → (ms : Members) × (t ≡ map_data ms) × IteratesEntries n ms s
map_of (map_data ms) n s finds = (ms, refl, finds)
map_of t n s finds = absurd finds

text_is : (d : Data) (s : List ℕ) → text_of d ≡ Some s → d ≡ text s
text_is (text k) s is = let same : k ≡ s = cc in ap text same
text_is d s is = absurd cc

-- ---- the parts

abbrev named_entries : List ℕ → List ℕ → Data → Members
named_entries name id d = member (codes "type") (text name) (member (codes "value") d (member (codes "schema") (link (cid_of id)) no_members))

pub record ArePartsOf (n : Node) (t : Data) (name id : List ℕ) (value : Node) : Type 0 where
  pub tree : Data
  pub is : t ≡ named_data name id tree
  pub part : IsPart n value (place_of t 1) tree

-- the second value of a map of three
second_part : (n ty value : Node) (s0 s1 s2 : Pairs) (name id : List ℕ) (d : Data) (rest : Members) → IteratesEntries n (named_entries name id d) s0
    → StepsOverEntry s0 (codes "type") (text name) rest (codes "type") ty s1 → (back : Members) → StepsOverEntry s1 (codes "value") d back (codes "value") value s2
    → IsPart n value (place_of (named_data name id d) 1) d
second_part n ty value s0 s1 s2 name id d rest it first back second = record {
  stands = second.stands;
  block_is = second.block_is ∙ first.same_block ∙ it.block_is;
  start_is =
      let begin = it.place in
      let behind = first.place in
      let at = second.start_is in
      let a = length-append (head 5 3) (spell_text (codes "type") ++ (spell (text name) ++ spell_text (codes "value"))) in
      let b = length-append (spell_text (codes "type")) (spell (text name) ++ spell_text (codes "value")) in
      let c = length-append (spell (text name)) (spell_text (codes "value")) in
      omega (arith, begin, behind, at, a, b, c);
}

pub parts_found : (t : Data) (n : Node) (s0 s1 s2 s3 s4 : Pairs) (ty value schema : Node) (name id : List ℕ) (r : Option (Bor (List ℕ) × Node)) → FindsEntries n (map_members t) (Some s0)
    → ((ms : Members) → HasEntries s0 ms → NextAt s0 ms (codes "type") (Some ty) s1) → ((ms : Members) → HasEntries s1 ms → NextAt s1 ms (codes "value") (Some value) s2)
    → ((ms : Members) → HasEntries s2 ms → NextAt s2 ms (codes "schema") (Some schema) s3) → EntriesGive s3 r s4 → is_some r ≡ false
    → ((d : Data) → HasData ty d → text_of d ≡ Some name) → ((d : Data) → HasData schema d → d ≡ link (cid_of id)) → ArePartsOf n t name id value
parts_found t n s0 s1 s2 s3 s4 ty value schema name id r finds next0 next1 next2 gives ends texts linked =
    let m = map_of t n s0 finds in
    let a = first_of_all s0 m.0 (codes "type") ty s1 (next0 m.0 m.2.left) in
    let b = first_of_all s1 a.rest (codes "value") value s2 (next1 a.rest a.next.left) in
    let c = first_of_all s2 b.rest (codes "schema") schema s3 (next2 b.rest b.next.left) in
    let z = no_rest s3 s4 c.rest r (gives c.rest c.next.left) ends in
    let x = text_is a.value name (texts a.value a.next.stands) in
    let y = linked c.value c.next.stands in
    let last : b.rest ≡ member (codes "schema") (link (cid_of id)) no_members = c.is ∙ (λ i. member (codes "schema") (y i) (z i)) in
    let middle : a.rest ≡ member (codes "value") b.value (member (codes "schema") (link (cid_of id)) no_members) = b.is ∙ ap (λ ms. member (codes "value") b.value ms) last in
    let all : m.0 ≡ named_entries name id b.value = a.is ∙ (λ i. member (codes "type") (x i) (middle i)) in
    let whole : t ≡ named_data name id b.value = m.1 ∙ ap map_data all in
    record {
      tree = b.value;
      is = whole;
      part = subst (λ (u : Data). IsPart n value (place_of u 1) b.value) (sym whole)
          (second_part n ty value s0 s1 s2 name id b.value a.rest (subst (λ (ms : Members). IteratesEntries n ms s0) all m.2)
          (subst (λ (d : Data). StepsOverEntry s0 (codes "type") d a.rest (codes "type") ty s1) x a.next) b.rest b.next);
    }
