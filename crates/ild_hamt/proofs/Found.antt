-- What is found in the slot to which a hash leads.
use Rattle.std.proofs.Common.{◌≡◌, ℕ, List, [], Option, Some, None, refl, sym, subst}
use Rattle.std.specs.FinMap.{find}
use Rattle.std.specs.Option.{ForSome}
use Rattle.std.proofs.lemmas.Option.{none-some, same_Some}
use Rattle.ild_cbor.specs.declared.node.Node.{Node}
use Rattle.ild_data.specs.ByteOrder.{bytewise}
use Rattle.ild_data.specs.Data.{Data}
use Rattle.ild_data.specs.Trie.{TrieSlot, empty, bucket, child, bucket_entries}
use Rattle.ild_data.specs.declared.hamt_shape.HamtShape.{HamtShape}
use Rattle.ild_data.specs.declared.id.BlockId.{BlockId}
use Rattle.ild_hamt.specs.Found.{FoundInNode, IsItemIn}
use Rattle.ild_hamt_climb.specs.Seen.{IsReadOf, ValueIs}
use Rattle.ild_hamt_climb.specs.Way.{slot_for}
use Rattle.ild_hamt_climb.proofs.Shown.{value-found}
use Rattle.ild_node_slots.specs.Views.{HasEntries, ValueIn, bucket_node}
use Rattle.ild_node_slots.specs.declared.bucket.Bucket.{Bucket}
use Rattle.ild_node_slots.specs.declared.view.NodeSlot.TheVariants as S

-- the entries of the slot that shows a bucket
bucket_shown : (b : Bucket) (s : TrieSlot) → IsReadOf (S.Bucket b) s → (es : List (List ℕ × Data)) × (s ≡ bucket es) × HasEntries b es
bucket_shown b empty is = absurd is
bucket_shown b (bucket es) is = (es, refl, is)
bucket_shown b (child c) is = absurd is

none_shown : (s : TrieSlot) → IsReadOf S.Empty s → bucket_entries s ≡ []
none_shown empty is = refl
none_shown (bucket es) is = absurd is
none_shown (child c) is = absurd is

child_shown : (id : BlockId) (s : TrieSlot) → IsReadOf (S.Child id) s → bucket_entries s ≡ []
child_shown id empty is = absurd is
child_shown id (bucket es) is = absurd is
child_shown id (child c) is = refl

item_there : (s : TrieSlot) (es : List (List ℕ × Data)) (b : Bucket) (key : List ℕ) (o : Option Data) (r : Option Node) → s ≡ bucket es → ValueIn (bucket_node b) es key o r → ForSome r (IsItemIn s key)
item_there s es b key None None is at = λ x there. absurd (none-some x there)
item_there s es b key None (Some n) is at = absurd at
item_there s es b key (Some d) None is at = absurd at
item_there s es b key (Some d) (Some n) is at = λ x there. subst (IsItemIn s key) (same_Some n x there) (record { entries = es; is = is; place = at.at; value = d; entry = at.entry; stands = at.part.stands })

module _ (p : HamtShape) (hash : List ℕ) (depth : ℕ) (key : List ℕ) (slots : List TrieSlot) where
  pub finds_bucket : (b : Bucket) (r : Option Node) → IsReadOf (S.Bucket b) (slot_for p hash depth slots) → ((es : List (List ℕ × Data)) → HasEntries b es → ValueIn (bucket_node b) es key (find bytewise key es) r) → FoundInNode p hash depth key slots r
  finds_bucket b r shown finds =
      let x = bucket_shown b (slot_for p hash depth slots) shown in
      let at = finds x.0 x.2 in
      record {
        value = subst (λ (s : TrieSlot). ValueIs (find bytewise key (bucket_entries s)) r) (sym x.1) (value-found (bucket_node b) x.0 key (find bytewise key x.0) r at);
        there = item_there (slot_for p hash depth slots) x.0 b key (find bytewise key x.0) r x.1 at;
      }

  finds_none : bucket_entries (slot_for p hash depth slots) ≡ [] → FoundInNode p hash depth key slots None
  finds_none is = record {
    value = subst (λ (es : List (List ℕ × Data)). ValueIs (find bytewise key es) None) (sym is) tt;
    there = λ x there. absurd (none-some x there);
  }

  pub finds_empty : IsReadOf S.Empty (slot_for p hash depth slots) → FoundInNode p hash depth key slots None
  finds_empty shown = finds_none (none_shown (slot_for p hash depth slots) shown)

  pub finds_child : (id : BlockId) → IsReadOf (S.Child id) (slot_for p hash depth slots) → FoundInNode p hash depth key slots None
  finds_child id shown = finds_none (child_shown id (slot_for p hash depth slots) shown)
