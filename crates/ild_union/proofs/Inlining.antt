-- Unions whose discriminant stands among the entries of their member.
use Rattle.std.proofs.Common.{◌≡◌, ℕ, Bool, true, false, cond, not, List, Option, Some, None, refl, sym, ◌∙◌, ap, subst}
use Rattle.std.specs.Prelude.{Result, is_none, is_some, option_and_then}
use Rattle.std.specs.Cmp.Lexicographic.{same_text as text_same}
use Rattle.ild_data.specs.Data as T
use Rattle.ild_data.specs.Data.{Data}
use Rattle.ild_data.specs.Key.{same_text, value_at, put, without, Rises}
use Rattle.ild_data.proofs.Lists.{members_list-members_of, members_of-members_list}
use Rattle.ild_data.proofs.Rising.{rises_put, rises_without}
use Rattle.ild_cbor.specs.declared.node.Node.{Node}
use Rattle.ild_cbor.specs.declared.kind.Kind.TheVariants as C
use Rattle.ild_cbor.specs.declared.piece.Piece.{Piece}
use Rattle.ild_cbor.specs.declared.piece.Piece.TheVariants as P
use Rattle.ild_cbor.specs.declared.why.Why.{Why}
use Rattle.ild_cbor.specs.Nodes.{Finds, HasData}
use Rattle.ild_cbor.specs.Scalar.{kind_of as node_kind, text_of}
use Rattle.ild_cbor.specs.Span.{entry_of, index_of, place_of}
use Rattle.ild_schema.specs.declared.def.TypeDef.{TypeDef}
use Rattle.ild_schema.specs.declared.def.TypeDef.TheVariants as D
use Rattle.ild_schema.specs.declared.def.UnionDef.{UnionDef}
use Rattle.ild_schema.specs.declared.row.Row.{Row}
use Rattle.ild_schema.specs.Parts.{part_spelled}
use Rattle.ild_schema.specs.declared.def.UnionForm.TheVariants as UF
use Rattle.ild_typed.specs.Composed.{inlined}
use Rattle.ild_typed.specs.Named.{where_some}
use Rattle.ild_typed.specs.Strings.{map_data, text_in}
use Rattle.ild_typed.specs.UnionWhy.{is_no_member}
use Rattle.ild_typed.proofs.Entries.{only_text_data, same_text_self, value_put}
use Rattle.ild_typed.proofs.Rising.{rising_same, value_without}
use Rattle.ild_layer_piece.specs.Pieces.{IsWithout, StandsFor, passed_key}
use Rattle.ild_layer_piece.proofs.Stand.{rises_members}
use Rattle.ild_union.specs.inside.Answers.{UnionAnswer, member_of}
use Rattle.ild_union.proofs.Marking.{IsTold, answered}

-- an entry that is taken away and put back
put_back : (key : List ℕ) (v : Data) (xs : List (List ℕ × Data)) → Rises xs → value_at key xs ≡ Some v → put key v (without key xs) ≡ xs
put_back key v xs up there =
    rising_same (put key v (without key xs)) xs (rises_put key v (without key xs) (rises_without key xs up)) up
    (λ q. value_put q key v (without key xs) ∙ ap (cond (same_text q key) (Some v)) (value_without q key xs up) ∙ by q (same_text q key) refl)
  where
    by : (q : List ℕ) (b : Bool) → same_text q key ≡ b → cond b (Some v) (cond b None (value_at q xs)) ≡ value_at q xs
    by q true is = sym there ∙ ap (λ k. value_at k xs) (sym (text_same q key (sym is)))
    by q false is = refl

pub inline_told : (key : List ℕ) (ms : T.Members) (text : List ℕ) → Rises (T.members_list ms) → value_at key (T.members_list ms) ≡ Some (T.text text)
    → IsTold (UF.Inline key) (T.map ms) text (map_data (without key (T.members_list ms)))
inline_told key ms text up there =
    let xs = T.members_list ms in
    let ys = without key xs in
    let gone : value_at key ys ≡ None = value_without key key xs up ∙ ap (λ b. cond b None (value_at key xs)) (same_text_self key) in
    record {
      made = ap (inlined key text) (members_list-members_of ys) ∙ ap (λ o. cond (is_none o) (Some (map_data (put key (T.text text) ys))) None) gone
          ∙ ap (λ zs. Some (map_data zs)) (put_back key (T.text text) xs up there) ∙ ap (λ zs. Some (T.map zs)) (members_of-members_list ms);
      marked = λ m. refl;
      kind = λ ms. refl;
      name = refl;
      missing = ap is_none there;
      count = refl;
      prefix = λ ms. refl;
      member = λ ms none. ap (where_some (is_no_member ms)) there ∙ ap not none;
    }

-- the member's own data, as a piece stands for them
pub is_without : (passed : Option (List ℕ)) (key : List ℕ) (n : Node) (ms : T.Members) (v : Data) → passed ≡ Some key → HasData n (T.map ms) → value_at key (T.members_list ms) ≡ Some v
    → IsWithout passed n (map_data (without key (T.members_list ms)))
is_without passed key n ms v is stands there = record { key = key; key_is = is; entries = ms; stands = stands; has = ap is_some there; rest = refl }

map_is : (t : Data) → C.Map ≡ node_kind t → (ms : T.Members) × (t ≡ T.map ms)
map_is (T.map ms) e = (ms, refl)
map_is T.null e = absurd (cc)
map_is (T.boolean b) e = absurd (cc)
map_is (T.integer n) e = absurd (cc)
map_is (T.text s) e = absurd (cc)
map_is (T.bytes s) e = absurd (cc)
map_is (T.list ds) e = absurd (cc)
map_is (T.link s) e = absurd (cc)

-- the value at a key of a node, and a node for it
record ValueAt (key : List ℕ) (ms : T.Members) (m : Node) : Type 0 where
  value : Data
  there : value_at key (T.members_list ms) ≡ Some value
  stands : HasData m value

value_of : (n m : Node) (place : ℕ) (key : List ℕ) (ms : T.Members) → Finds n place (entry_of (T.map ms) key) (Some m) → ValueAt key ms m
value_of n m place key ms h = by (value_at key (T.members_list ms)) refl h where
  by : (o : Option Data) → value_at key (T.members_list ms) ≡ o → Finds n place o (Some m) → ValueAt key ms m
  by None is k = absurd k
  by (Some v) is k = record { value = v; there = is; stands = k.stands }

-- the answer of a look-up by the text under the key
pub inline_answer : (rows : List Row) (own : ℕ) (u : UnionDef) (key name : List ℕ) (n m : Node) (t : Data) → u.form ≡ UF.Inline key → passed_key rows own ≡ Some key
    → C.Map ≡ node_kind t → HasData n t → ((d : Data) → HasData n d → Finds n (place_of d (index_of key d)) (entry_of d key) (Some m)) → ((d : Data) → HasData m d → Some name ≡ text_of d)
    → (o : Option TypeDef) → o ≡ Some (D.Union u) → (r : Result (ℕ × Piece) Why) → r ≡ member_of (P.Inline n own) (option_and_then (part_spelled name) o) → UnionAnswer rows u t r
inline_answer rows own u key name n m t form passed map stands found text o known r same =
    let k = map_is t map in
    let whole : HasData n (T.map k.0) = subst (HasData n) k.1 stands in
    let v = value_of n m (place_of (T.map k.0) (index_of key (T.map k.0))) key k.0 (found (T.map k.0) whole) in
    let is : v.value ≡ T.text name = only_text_data v.value name (same_text_in v.value ∙ sym (text v.value v.stands)) in
    let there : value_at key (T.members_list k.0) ≡ Some (T.text name) = v.there ∙ ap Some is in
    let told : IsTold (UF.Inline key) (T.map k.0) name (map_data (without key (T.members_list k.0))) = inline_told key k.0 name (rises_members k.0 whole.within.tree) there in
    let part : StandsFor rows (P.Inline n own) (map_data (without key (T.members_list k.0))) = is_without (passed_key rows own) key n k.0 (T.text name) passed whole there in
    answered rows u (UF.Inline key) t name (map_data (without key (T.members_list k.0))) form
    (subst (λ (d : Data). IsTold (UF.Inline key) d name (map_data (without key (T.members_list k.0)))) (sym k.1) told) (P.Inline n own) part o known r same
  where
    same_text_in : (d : Data) → text_in d ≡ text_of d
    same_text_in T.null = refl
    same_text_in (T.boolean b) = refl
    same_text_in (T.integer n) = refl
    same_text_in (T.text s) = refl
    same_text_in (T.bytes s) = refl
    same_text_in (T.list ds) = refl
    same_text_in (T.map ms) = refl
    same_text_in (T.link s) = refl
