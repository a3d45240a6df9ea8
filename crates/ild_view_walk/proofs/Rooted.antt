-- What is found of the root of a HAMT by itself.
use Rattle.std.proofs.Common.{◌≡◌, ℕ, ◌+◌, ◌<◌, ◌≤◌, List, Bool, true, false, not, cond, pos, negsuc, ℤ, Option, Some, None, Err, refl, sym, ◌∙◌, ap, subst, arith, inl, inr}
use Rattle.std.specs.Prelude.{codes, option_and_then, Result}
use Rattle.std.proofs.lemmas.Bool.{eq-eqb, eqb-true}
use Rattle.std.proofs.lemmas.Option.{none-some, same_Some}
use Rattle.ild_data.specs.Data as T
use Rattle.ild_data.specs.Data.{Data}
use Rattle.ild_data.specs.Key.{value_at}
use Rattle.ild_data.specs.Trie.{TrieSlot, node_data}
use Rattle.ild_data.specs.declared.hamt_shape.HamtShape.{HamtShape}
use Rattle.ild_cbor.specs.Scalar.{int_of, kind_of}
use Rattle.ild_cbor.specs.Span.{entry_of}
use Rattle.ild_cbor.specs.declared.kind.Kind.TheVariants as K
use Rattle.ild_cbor.specs.declared.why.Why.{Why}
use Rattle.ild_cbor.specs.declared.why.Why.TheVariants as Y
use Rattle.ild_node_slots.specs.Form.{bucket_size, hash_alg}
use Rattle.ild_node_slots.specs.Roots.{HasOtherInt, IsRootWhy}
use Rattle.ild_node_slots.specs.declared.view.NodeView.{NodeView}
use Rattle.ild_layer_piece.specs.Answers.{told}
use Rattle.ild_schema.specs.declared.def.MapForm.TheVariants as MF
use Rattle.ild_schema.specs.declared.def.TypeDef.{TypeDef}
use Rattle.ild_schema.specs.declared.def.TypeDef.TheVariants as D
use Rattle.ild_schema.specs.declared.number.Slot.{Slot}
use Rattle.ild_schema.specs.declared.number.TypeNo.{TypeNo}
use Rattle.ild_schema.specs.declared.row.Row.{Row}
use Rattle.ild_typed.specs.Causes.{why_of}
use Rattle.ild_typed.specs.Fields.{same_int}
use Rattle.ild_typed.specs.Hamt.{root_map}
use Rattle.ild_typed.specs.Named.{where_some}
use Rattle.ild_typed.specs.Node.{IsRoot}
use Rattle.ild_typed.specs.Pieces.{IsWhy, has_odd, is_odd, root_why, why_at}
use Rattle.ild_typed.specs.RootSpots.{root_spots}
use Rattle.ild_typed.specs.Why as W
use Rattle.ild_layer_parts.specs.declared.parts.Parts.TheVariants as P
use Rattle.ild_layer_parts.specs.declared.root.RootEntries.{RootEntries}
use Rattle.ild_view_walk.specs.inside.Opens.{HasOpened}
use Rattle.ild_layer_parts.specs.Root.{HasRoot}
use Rattle.ild_layer_parts.proofs.Asking.{deep_at, past_room}

-- ---- an integer that is another

other_int : (n : ℕ) (i : ℤ) → (i ≡ pos n → ⊥) → same_int (pos n) i ≡ false
other_int n (negsuc k) h = refl
other_int n (pos k) h = by (same_int (pos n) (pos k)) refl where
  by : (b : Bool) → same_int (pos n) (pos k) ≡ b → same_int (pos n) (pos k) ≡ false
  by true e = absurd (h (ap pos (sym (eqb-true n k e))))
  by false e = e

int_itself : (n : ℕ) (i : ℤ) → i ≡ pos n → same_int (pos n) i ≡ true
int_itself n i e = subst (λ k. same_int (pos n) k ≡ true) (sym e) (eq-eqb n n refl)

odd_from : (n : ℕ) (o : Option Data) (found : ℤ) → option_and_then int_of o ≡ Some found → (found ≡ pos n → ⊥) → where_some (is_odd n) o ≡ true
odd_from n None found e h = absurd (none-some found e)
odd_from n (Some (T.integer i)) found e h = ap not (other_int n i (λ k. h (sym (same_Some i found e) ∙ k)))
odd_from n (Some d) found e h = absurd (none-some found e)

even_from : (n : ℕ) (o : Option Data) → ((found : ℤ) → option_and_then int_of o ≡ Some found → (found ≡ pos n → ⊥) → ⊥) → where_some (is_odd n) o ≡ false
even_from n None h = refl
even_from n (Some (T.integer i)) h = by (same_int (pos n) i) refl where
  by : (b : Bool) → same_int (pos n) i ≡ b → not (same_int (pos n) i) ≡ false
  by true e = ap not e
  by false e = absurd (h i refl (λ k. true_not_false (sym (int_itself n i k) ∙ e))) where
    true_not_false : true ≡ false → ⊥
    true_not_false k = cc
even_from n (Some d) h = refl

is_map : (t : Data) → kind_of t ≡ K.Map → (ms : T.Members) × (t ≡ T.map ms)
is_map (T.map ms) e = (ms, refl)
is_map t e = absurd cc

pub odd_there : (t : Data) (key : List ℕ) (n : ℕ) → kind_of t ≡ K.Map → HasOtherInt t key n → has_odd key n t ≡ true
odd_there t key n map h =
    let m = is_map t map in
    let is : option_and_then int_of (value_at key (T.members_list m.0)) ≡ Some h.found = subst (λ u. option_and_then int_of (entry_of u key) ≡ Some h.found) m.1 h.is in
    subst (λ u. has_odd key n u ≡ true) (sym m.1) (odd_from n (value_at key (T.members_list m.0)) h.found is h.other)

pub even_there : (t : Data) (key : List ℕ) (n : ℕ) → kind_of t ≡ K.Map → (HasOtherInt t key n → ⊥) → has_odd key n t ≡ false
even_there t key n map h =
    let m = is_map t map in
    subst (λ u. has_odd key n u ≡ false) (sym m.1)
    (even_from n (value_at key (T.members_list m.0)) (λ found is other. h (record { found = found; is = subst (λ u. option_and_then int_of (entry_of u key) ≡ Some found) (sym m.1) is; other = other })))

-- ---- the causes

module _ (room : ℕ) (p : HamtShape) (key : TypeNo) (key_at : ℕ) (value : Slot) (at : ℕ) (t : Data) (map : kind_of t ≡ K.Map) where
  abbrev Own : TypeDef
  Own = D.Map key key_at value at (MF.Hamt p)

  own : why_of (D.Map key key_at value at (MF.Hamt p)) t ≡ None
  own = by t map where
    by : (u : Data) → kind_of u ≡ K.Map → why_of (D.Map key key_at value at (MF.Hamt p)) u ≡ None
    by (T.map ms) e = refl
    by u e = absurd cc

  pub hamt_deep : room < 5 → IsWhy room (D.Map key key_at value at (MF.Hamt p)) t W.Depth
  hamt_deep less = inl (deep_at room (D.Map key key_at value at (MF.Hamt p)) t own refl less)

  module _ (enough : 5 ≤ room) where
    asked : why_at room (D.Map key key_at value at (MF.Hamt p)) t ≡ root_why p t
    asked = past_room room (D.Map key key_at value at (MF.Hamt p)) t own refl enough

    pub root_refused : (why : Why) → IsRootWhy why → ((Y.HashAlg ≡ why → HasOtherInt t hash_alg 18) × (HasOtherInt t hash_alg 18 → why ≡ Y.HashAlg))
        → ((Y.BucketSize ≡ why → (HasOtherInt t hash_alg 18 → ⊥) × HasOtherInt t bucket_size p.bucket) × ((HasOtherInt t hash_alg 18 → ⊥) × HasOtherInt t bucket_size p.bucket → why ≡ Y.BucketSize))
        → ((slots : List TrieSlot) → IsRoot p slots t → ⊥) → IsWhy room (D.Map key key_at value at (MF.Hamt p)) t (told why)
    root_refused Y.HashAlg is hash size rootless =
        inl (asked ∙ ap (λ b. cond b (Some W.HashAlg) (cond (has_odd (codes "bucketSize") p.bucket t) (Some W.BucketSize) None)) (odd_there t hash_alg 18 map (hash.0 refl)))
    root_refused Y.BucketSize is hash size rootless =
        let x = size.0 refl in
        inl (asked ∙ ap (λ b. cond b (Some W.HashAlg) (cond (has_odd (codes "bucketSize") p.bucket t) (Some W.BucketSize) None)) (even_there t hash_alg 18 map x.0)
        ∙ ap (λ b. cond b (Some W.BucketSize) None) (odd_there t bucket_size p.bucket map x.1))
    root_refused Y.Trie is hash size rootless =
        let no_hash : HasOtherInt t hash_alg 18 → ⊥ = λ h. absurd (trie_not_hash (hash.1 h)) in
        let no_size : HasOtherInt t bucket_size p.bucket → ⊥ = λ h. absurd (trie_not_size (size.1 (no_hash, h))) in
        inr (
          asked ∙ ap (λ b. cond b (Some W.HashAlg) (cond (has_odd (codes "bucketSize") p.bucket t) (Some W.BucketSize) None)) (even_there t hash_alg 18 map no_hash)
              ∙ ap (λ b. cond b (Some W.BucketSize) None) (even_there t bucket_size p.bucket map no_size),
          rootless,
          refl,
        )
      where
        trie_not_hash : Y.Trie ≡ Y.HashAlg → ⊥
        trie_not_hash e = cc

        trie_not_size : Y.Trie ≡ Y.BucketSize → ⊥
        trie_not_size e = cc
    root_refused why is hash size rootless = absurd is

-- ---- the entries

no_root_why : (p : HamtShape) (node : Data) → root_why p (root_map p node) ≡ None
no_root_why p node = ap (λ b. cond (not b) (Some W.BucketSize) None) (int_itself p.bucket (pos p.bucket) refl)

pub hamt_opens : (rows : List Row) (room left : ℕ) (p : HamtShape) (key : TypeNo) (key_at : ℕ) (value : Slot) (at : ℕ) (t : Data) → kind_of t ≡ K.Map → left + 5 ≡ room → (slots : List TrieSlot) → IsRoot p slots t
    → (s : RootEntries) → HasRoot s (root_spots key value 0 slots) → HasOpened rows room (D.Map key key_at value at (MF.Hamt p)) t (record { parts = P.Root s; room = left })
hamt_opens rows room left p key key_at value at t map sum slots root s has = record {
  none = asked room p key key_at value at t map (omega (arith, sum)) ∙ ap (root_why p) root.tree ∙ no_root_why p (node_data slots);
  spots = root_spots key value 0 slots;
  parts = (slots, root, refl);
  room_is = sum;
  left = has;
}

pub err_same : (r : Result NodeView Why) (a b : Why) → r ≡ Err a → r ≡ Err b → a ≡ b
err_same r a b e k = cc

pub false_true : false ≡ true → ⊥
false_true e = cc
