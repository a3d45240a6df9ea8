-- The members of unions that are found.
use Rattle.std.proofs.Common.{◌≡◌, ℕ, zero, suc, ◌+◌, List, [], ◌∷◌, Bool, true, false, cond, Option, Some, None, option_map, refl, sym, ap, ◌∙◌, subst, arith}
use Rattle.std.specs.Borrow.{Bor}
use Rattle.std.specs.List.{AllByRecursion, position_from}
use Rattle.std.specs.Option.{option_and_then}
use Rattle.std.specs.Prelude.{is_some, pos, slice_get}
use Rattle.std.proofs.lemmas.Option.{none-some, same_Some}
use Rattle.ild_beneath.specs.Parts.{has_text, marked_part, member_part, union_parts}
use Rattle.ild_cbor.specs.Nodes.{HasData}
use Rattle.ild_cbor.specs.Scalar.{kind_of as kind_in, text_of as text_found}
use Rattle.ild_cbor.specs.declared.kind.Kind.{Kind}
use Rattle.ild_cbor.specs.declared.kind.Kind.TheVariants as K
use Rattle.ild_cbor.specs.declared.node.Node.{Node}
use Rattle.ild_cbor.specs.declared.piece.Piece.{Piece}
use Rattle.ild_cbor.specs.declared.piece.Piece.TheVariants as Q
use Rattle.ild_layer_fields.proofs.Pairing.{text_is}
use Rattle.ild_data.specs.Data as T
use Rattle.ild_data.specs.Data.{Data}
use Rattle.ild_data.specs.Key.{same_text, value_at, without}
use Rattle.ild_layer_fields.proofs.Placing.{text_turn}
use Rattle.ild_layer_piece.proofs.Walking.{first_left, walked}
use Rattle.ild_layer_piece.specs.Entries.{EntriesGive, Found, Maps}
use Rattle.ild_layer_piece.specs.Pieces.{IsNumbered, IsWithout, StandsFor, passed_key}
use Rattle.ild_layer_piece.specs.declared.walk.MapEntries.{MapEntries}
use Rattle.ild_schema.specs.Made.{MadeMember}
use Rattle.ild_schema.specs.Marks.{mark_text}
use Rattle.ild_schema.specs.Parts.{is_text, part_spelled}
use Rattle.ild_schema.specs.Rules.{is_map_form, is_map_struct}
use Rattle.ild_schema.specs.declared.def.Member.{Member}
use Rattle.ild_schema.specs.declared.def.TypeDef.{TypeDef}
use Rattle.ild_schema.specs.declared.def.TypeDef.TheVariants as D
use Rattle.ild_schema.specs.declared.def.UnionDef.{UnionDef}
use Rattle.ild_schema.specs.declared.def.UnionForm.TheVariants as UF
use Rattle.ild_schema.specs.declared.number.Slot.{Slot}
use Rattle.ild_schema.specs.declared.row.Row.{Row}
use Rattle.ild_typed.specs.Named.{where_some}
use Rattle.ild_typed.specs.Slots.{slot_of}
use Rattle.ild_typed.specs.Strings.{map_data, members_in}
use Rattle.ild_beneath_read.specs.inside.Opened.{AreMapStructs, IsReady, IsWhole, MembersIn, Parted, PassesInStruct, opened_member, slot_found}

-- ---- by a text

text_same : (k : List ℕ) (o : Option (List ℕ)) → is_text k o ≡ where_some (λ s. same_text s k) o
text_same k None = refl
text_same k (Some s) = text_turn k s

module _ (k : List ℕ) where
  abbrev passes : Member → Bool
  passes m = is_text k (mark_text m.mark)

  abbrev At : List Member → ℕ → ℕ → Type 0
  At ms n i = (j : ℕ) × (i ≡ n + j) × (option_map slot_of (slice_get ms j) ≡ slot_found (has_text k) ms)

  slot_at : (ms : List Member) (n i : ℕ) → position_from passes n ms ≡ Some i → At ms n i
  slot_at [] n i e = absurd (none-some i e)
  slot_at (m ∷ ms) n i e = by (passes m) (text_same k (mark_text m.mark)) (slot_at ms (n + 1) i) e where
    by : (b : Bool) → b ≡ has_text k m → (position_from passes (n + 1) ms ≡ Some i → At ms (n + 1) i) → cond b (Some n) (position_from passes (n + 1) ms) ≡ Some i → At (m ∷ ms) n i
    by true is rest e = let at = same_Some n i e in (zero, omega (arith, at), ap (λ b. cond b (Some (slot_of m)) (slot_found (has_text k) ms)) is)
    by false is rest e =
        let x = rest e in
        let at = x.1 in
        (suc x.0, omega (arith, at), x.2 ∙ ap (λ b. cond b (Some (slot_of m)) (slot_found (has_text k) ms)) is)

  no_slot : (ms : List Member) (n : ℕ) → position_from passes n ms ≡ None → slot_found (has_text k) ms ≡ None
  no_slot [] n e = refl
  no_slot (m ∷ ms) n e = by (passes m) (text_same k (mark_text m.mark)) (no_slot ms (n + 1)) e where
    by : (b : Bool) → b ≡ has_text k m → (position_from passes (n + 1) ms ≡ None → slot_found (has_text k) ms ≡ None) → cond b (Some n) (position_from passes (n + 1) ms) ≡ None
        → cond (has_text k m) (Some (slot_of m)) (slot_found (has_text k) ms) ≡ None
    by true is rest e = absurd (none-some n (sym e))
    by false is rest e = ap (λ b. cond b (Some (slot_of m)) (slot_found (has_text k) ms)) (sym is) ∙ rest e

  module _ (o : Option TypeDef) (u : UnionDef) (known : o ≡ Some (D.Union u)) where
    looked : (r : Option ℕ) → r ≡ option_and_then (part_spelled k) o → position_from passes 0 u.members ≡ r
    looked r is = sym (is ∙ ap (option_and_then (part_spelled k)) known)

    pub text_there : (i : ℕ) (m : Member) → Some i ≡ option_and_then (part_spelled k) o → Some m ≡ slice_get u.members i → Some (slot_of m) ≡ slot_found (has_text k) u.members
    text_there i m is at =
        let x = slot_at u.members 0 i (looked (Some i) is) in
        let here = x.1 in
        let same : i ≡ x.0 = omega (arith, here) in
        ap (option_map slot_of) (at ∙ ap (slice_get u.members) same) ∙ x.2

    pub text_past : (i : ℕ) → Some i ≡ option_and_then (part_spelled k) o → None ≡ slice_get u.members i → None ≡ slot_found (has_text k) u.members
    text_past i is at =
        let x = slot_at u.members 0 i (looked (Some i) is) in
        let here = x.1 in
        let same : i ≡ x.0 = omega (arith, here) in
        ap (option_map slot_of) (at ∙ ap (slice_get u.members) same) ∙ x.2

    pub text_nowhere : None ≡ option_and_then (part_spelled k) o → None ≡ slot_found (has_text k) u.members
    text_nowhere is = sym (no_slot u.members 0 (looked None is))

-- ---- a member that was found

pub member_parted : (rows : List Row) (passes : Member → Bool) (ms : List Member) (d : Data) (p : Piece) → StandsFor rows p d → Parted rows (member_part passes ms d) (opened_member (slot_found passes ms) p)
member_parted rows passes [] d p stands = refl
member_parted rows passes (m ∷ ms) d p stands = by (passes m) (member_parted rows passes ms d p stands) where
  by : (b : Bool) → Parted rows (member_part passes ms d) (opened_member (slot_found passes ms) p)
      → Parted rows (cond b ((slot_of m, d) ∷ []) (member_part passes ms d)) (opened_member (cond b (Some (slot_of m)) (slot_found passes ms)) p)
  by true rest = (d, stands, refl)
  by false rest = rest

-- what is a function of the slot and was found
module _ (rows : List Row) (p : Piece) (numbered : IsNumbered rows p) (passes : Member → Bool) where
  pub member_ready : (ms : List Member) → MembersIn rows ms → AllByRecursion (λ m. PassesInStruct rows (slot_of m) p) ms → IsReady rows (opened_member (slot_found passes ms) p)
  member_ready [] low passed = tt
  member_ready (m ∷ ms) low passed = by (passes m) (member_ready ms low.1 passed.1) where
    by : (b : Bool) → IsReady rows (opened_member (slot_found passes ms) p) → IsReady rows (opened_member (cond b (Some (slot_of m)) (slot_found passes ms)) p)
    by true rest = (low.0, numbered, passed.0)
    by false rest = rest

pub whole_pass : (rows : List Row) (p : Piece) (ms : List Member) → IsWhole p → AllByRecursion (λ m. PassesInStruct rows (slot_of m) p) ms
whole_pass rows p [] whole = tt
whole_pass rows (Q.Node n) (m ∷ ms) whole = (tt, whole_pass rows (Q.Node n) ms whole)
whole_pass rows (Q.Text s) (m ∷ ms) whole = (tt, whole_pass rows (Q.Text s) ms whole)
whole_pass rows (Q.Bytes s) (m ∷ ms) whole = (tt, whole_pass rows (Q.Bytes s) ms whole)
whole_pass rows (Q.Inline n u) (m ∷ ms) whole = absurd whole

pub inline_pass : (rows : List Row) (n : Node) (own : ℕ) (ms : List Member) → AreMapStructs rows ms → AllByRecursion (λ m. PassesInStruct rows (slot_of m) (Q.Inline n own)) ms
inline_pass rows n own [] all = tt
inline_pass rows n own (m ∷ ms) all = (all.0, inline_pass rows n own ms all.1)

pub inline_structs : (rows : List Row) (key : List ℕ) (ms : List Member) → AllByRecursion (MadeMember rows (UF.Inline key)) ms → AreMapStructs rows ms
inline_structs rows key [] all = tt
inline_structs rows key (m ∷ ms) all = (ap is_map_struct all.0.1.known ∙ ap is_map_form all.0.1.form, inline_structs rows key ms all.1)

-- of each kind there are data
pub of_kind : (k : Kind) → (t : Data) × (k ≡ kind_in t)
of_kind K.Null = (T.null, refl)
of_kind K.Bool = (T.boolean true, refl)
of_kind K.Int = (T.integer (pos 0), refl)
of_kind K.Text = (T.text [], refl)
of_kind K.Bytes = (T.bytes [], refl)
of_kind K.List = (T.list T.no_items, refl)
of_kind K.Map = (T.map T.no_members, refl)
of_kind K.Link = (T.link [], refl)

-- ---- by the first key

first_key : (ms : List Member) (t : Data) (k : List ℕ) (d : Data) (es : List (List ℕ × Data)) → members_in t ≡ Some ((k, d) ∷ es) → union_parts UF.Keyed ms t ≡ member_part (has_text k) ms d
first_key ms (T.map T.no_members) k d es e = absurd (let f : [] ≡ (k, d) ∷ es = same_Some [] ((k, d) ∷ es) e in cc)
first_key ms (T.map (T.member l c es')) k d es e =
    let f : (l, c) ∷ T.members_list es' ≡ (k, d) ∷ es = same_Some ((l, c) ∷ T.members_list es') ((k, d) ∷ es) e in
    ap (λ (xs : List (List ℕ × Data)). at xs) f
  where
    at : List (List ℕ × Data) → List (Slot × Data)
    at [] = []
    at (x ∷ xs) = member_part (has_text x.0) ms x.1
first_key ms t k d es e = absurd (none-some ((k, d) ∷ es) e)

module _ (rows : List Row) (ms : List Member) (t : Data) (s after : MapEntries) (maps : Maps (members_in t) (Some s)) where
  pub keyed_parted : (x : Bor (List ℕ) × Node) → EntriesGive s (Some x) after → Parted rows (union_parts UF.Keyed ms t) (opened_member (slot_found (has_text x.0.now) ms) (Q.Node x.1))
  keyed_parted x gives =
      let w = walked t s maps in
      let y = first_left s after x w.entries gives w.left in
      subst (λ ps. Parted rows ps (opened_member (slot_found (has_text x.0.now) ms) (Q.Node x.1))) (sym (first_key ms t x.0.now y.value y.rest (w.is ∙ ap Some y.is)))
      (member_parted rows (has_text x.0.now) ms y.value (Q.Node x.1) y.stands)

-- ---- by the text under a key

-- what stands at a key
record AtKey (t : Data) (k : List ℕ) (n : Node) : Type 0 where
  pub members : T.Members
  pub is : t ≡ T.map members
  pub value : Data
  pub there : value_at k (T.members_list members) ≡ Some value
  pub stands : HasData n value

at_key : (t : Data) (k : List ℕ) (n : Node) → Found (option_and_then (value_at k) (members_in t)) (Some n) → AtKey t k n
at_key (T.map ms) k n found = by (value_at k (T.members_list ms)) refl found where
  by : (o : Option Data) → value_at k (T.members_list ms) ≡ o → Found o (Some n) → AtKey (T.map ms) k n
  by None is h = absurd h
  by (Some d) is h = record { members = ms; is = refl; value = d; there = is; stands = h }
at_key t k n found = absurd found

module _ (rows : List Row) (ms : List Member) (key : List ℕ) (t : Data) where
  module _ (content : List ℕ) where
    module _ (mark : Node) (found : Found (option_and_then (value_at key) (members_in t)) (Some mark)) where
      pub envelope_parted : (name : List ℕ) (n : Node) → ((d : Data) → HasData mark d → Some name ≡ text_found d) → Found (option_and_then (value_at content) (members_in t)) (Some n)
          → Parted rows (union_parts (UF.Envelope key content) ms t) (opened_member (slot_found (has_text name) ms) (Q.Node n))
      envelope_parted name n text held =
          let x = at_key t key mark found in
          let z = at_key (T.map x.members) content n (subst (λ d. Found (option_and_then (value_at content) (members_in d)) (Some n)) x.is held) in
          let same : T.members_list z.members ≡ T.members_list x.members = same_Some (T.members_list z.members) (T.members_list x.members) (sym (ap members_in z.is)) in
          let there : value_at content (T.members_list x.members) ≡ Some z.value = ap (value_at content) (sym same) ∙ z.there in
          let whole : union_parts (UF.Envelope key content) ms t ≡ member_part (has_text name) ms z.value
          = ap (union_parts (UF.Envelope key content) ms) x.is ∙ ap (λ o. marked_part ms o (value_at content (T.members_list x.members))) (x.there ∙ ap Some (text_is x.value name (text x.value x.stands)))
          ∙ ap (λ o. marked_part ms (Some (T.text name)) o) there in
          subst (λ ps. Parted rows ps (opened_member (slot_found (has_text name) ms) (Q.Node n))) (sym whole) (member_parted rows (has_text name) ms z.value (Q.Node n) z.stands)

  -- ---- among the own entries

  module _ (mark : Node) (found : Found (option_and_then (value_at key) (members_in t)) (Some mark)) where
    pub inline_parted : (name : List ℕ) (n : Node) (own : ℕ) → passed_key rows own ≡ Some key → HasData n t → ((d : Data) → HasData mark d → Some name ≡ text_found d)
        → Parted rows (union_parts (UF.Inline key) ms t) (opened_member (slot_found (has_text name) ms) (Q.Inline n own))
    inline_parted name n own passed stands text =
        let x = at_key t key mark found in
        let left : Data = map_data (without key (T.members_list x.members)) in
        let without_it : IsWithout (passed_key rows own) n left
        = record { key = key; key_is = passed; entries = x.members; stands = subst (HasData n) x.is stands; has = ap is_some x.there; rest = refl } in
        let whole : union_parts (UF.Inline key) ms t ≡ member_part (has_text name) ms left
        = ap (union_parts (UF.Inline key) ms) x.is ∙ ap (λ o. marked_part ms o (Some left)) (x.there ∙ ap Some (text_is x.value name (text x.value x.stands))) in
        subst (λ ps. Parted rows ps (opened_member (slot_found (has_text name) ms) (Q.Inline n own))) (sym whole) (member_parted rows (has_text name) ms left (Q.Inline n own) without_it)
