-- Each type that a row is made on is in the table, where the numbers of names are.
use Rattle.std.proofs.Common.{◌≡◌, ℕ, suc, ◌+◌, ◌<◌, ◌≤◌, List, [], ◌∷◌, ◌++◌, Option, length, map, refl, ap, arith, length-append}
use Rattle.std.specs.List.{All, flat_map}
use Rattle.std.specs.Option.{unwrap_or}
use Rattle.std.proofs.lemmas.List.{length-map}
use Rattle.std.proofs.lemmas.List.Elements.{All-nil, All-cons, All-append, All-from_recursion}
use Rattle.ild_parse_grammar.specs.Reference.{Reference, refer, Refers, named, link, list, map as map_to}
use Rattle.ild_parse_grammar.specs.declared.ast.Decl.{Decl}
use Rattle.ild_parse_grammar.specs.declared.ast.Decl.TheVariants as A
use Rattle.ild_parse_grammar.specs.declared.ast.Body.{Body}
use Rattle.ild_parse_grammar.specs.declared.ast.Body.TheVariants as B
use Rattle.ild_parse_grammar.specs.declared.ast.Field.{Field}
use Rattle.ild_parse_grammar.specs.declared.ast.Member.{Member}
use Rattle.ild_parse_grammar.specs.declared.ast.Target.{Target}
use Rattle.ild_parse_grammar.specs.declared.ast.Target.TheVariants as T
use Rattle.ild_parse_grammar.specs.declared.ast.EnumMember.{EnumMember}
use Rattle.ild_schema.specs.Prelude.{prelude}
use Rattle.ild_schema.specs.Table.{IsWithin}
use Rattle.ild_schema.specs.declared.row.Row.{Row}
use Rattle.ild_resolve.specs.Events.{field_events, member_events, enum_member_events, each_events, body_events, decl_events, reference_events, target_events, mark_events}
use Rattle.ild_resolve.specs.Forms.{enum_member}
use Rattle.ild_resolve.specs.Rows.{slot, reference_rows, inline_rows, fields, field_rows, target_type, target_rows, members, member_rows, body_def, body_rows, decl_rows, decls_rows}
use Rattle.ild_resolve.proofs.Limits.{FewParts, few_left, few_right}

-- ---- no more parts than there may be

pub fields_few : (before : ℕ) (fs : List Field) → FewParts (each_events field_events before fs) → before ≤ 1024 → before + length fs ≤ 1024
fields_few before [] h le = omega arith
fields_few before (f ∷ fs) h le =
    omega (arith, fields_few (suc before) fs (few_right (reference_events f.value) (each_events field_events (suc before) fs) h.1) h.0)

pub members_few : (before : ℕ) (ms : List Member) → FewParts (each_events member_events before ms) → before ≤ 1024 → before + length ms ≤ 1024
members_few before [] h le = omega arith
members_few before (m ∷ ms) h le =
    omega (arith, members_few (suc before) ms (few_right (target_events m.at m.target ++ mark_events m.mark) (each_events member_events (suc before) ms) h.1) h.0)

pub enum_few : (before : ℕ) (ms : List EnumMember) → FewParts (each_events enum_member_events before ms) → before ≤ 1024 → before + length ms ≤ 1024
enum_few before [] h le = omega arith
enum_few before (m ∷ ms) h le = omega (arith, enum_few (suc before) ms h.1 h.0)

-- ---- the numbers

abbrev pub IsRowWithin : ℕ → Row → Type 0
IsRowWithin count r = IsWithin count r.def

abbrev AreBelow : ℕ → List ℕ → Type 0
AreBelow count numbers = All (λ n. n < count) numbers

none_below : (count : ℕ) → AreBelow count []
none_below count = All-nil (λ n. n < count)

one_below : (count n : ℕ) → n < count → AreBelow count (n ∷ [])
one_below count n h = All-cons (λ n. n < count) n [] h (none_below count)

two_below : (count m n : ℕ) → m < count → n < count → AreBelow count (m ∷ n ∷ [])
two_below count m n h k = All-cons (λ n. n < count) m (n ∷ []) h (one_below count n k)

module _ (numbers : List ℕ → Option ℕ) (count : ℕ) (named_below : (name : List ℕ) → unwrap_or (numbers name) 0 < count) where
  slot_below : (n : ℕ) (r : Reference) → n + length (reference_rows numbers n r) ≤ count → (slot numbers n r).ty.0 < count
  slot_below n (refer at nullable type_at (named t)) h = named_below t.name
  slot_below n (refer at nullable type_at (link t)) h = omega arith
  slot_below n (refer at nullable type_at (list r)) h = omega arith
  slot_below n (refer at nullable type_at (map_to k r)) h = omega arith

  mutual
    pub reference_within : (n : ℕ) (r : Reference) → n + length (reference_rows numbers n r) ≤ count → All (IsRowWithin count) (reference_rows numbers n r)
    reference_within n (refer at nullable type_at r) h = inline_within n type_at r h

    pub inline_within : (n at : ℕ) (r : Refers) → n + length (inline_rows numbers n at r) ≤ count → All (IsRowWithin count) (inline_rows numbers n at r)
    inline_within n at (named t) h = All-nil (IsRowWithin count)
    inline_within n at (link t) h =
        All-cons (IsRowWithin count) _ [] (omega arith, one_below count _ (named_below t.name)) (All-nil (IsRowWithin count))
    inline_within n at (list r) h =
        let inside : suc n + length (reference_rows numbers (suc n) r) ≤ count = omega arith in
        All-cons (IsRowWithin count) _ (reference_rows numbers (suc n) r) (omega arith, one_below count _ (slot_below (suc n) r inside)) (reference_within (suc n) r inside)
    inline_within n at (map_to k r) h =
        let inside : suc n + length (reference_rows numbers (suc n) r) ≤ count = omega arith in
        All-cons (IsRowWithin count) _ (reference_rows numbers (suc n) r) (omega arith, two_below count _ _ (named_below k.name) (slot_below (suc n) r inside)) (reference_within (suc n) r inside)

  -- ---- fields and members

  fields_below : (n : ℕ) (fs : List Field) → n + length (field_rows numbers n fs) ≤ count → AreBelow count (map (λ f. f.slot.ty.0) (fields numbers n fs))
  fields_below n [] h = none_below count
  fields_below n (f ∷ fs) h =
      let next : ℕ = n + length (reference_rows numbers n f.value) in
      let sizes = length-append (reference_rows numbers n f.value) (field_rows numbers next fs) in
      All-cons (λ k. k < count) _ (map (λ f. f.slot.ty.0) (fields numbers next fs)) (slot_below n f.value (omega (arith, sizes))) (fields_below next fs (omega (arith, sizes)))

  field_rows_within : (n : ℕ) (fs : List Field) → n + length (field_rows numbers n fs) ≤ count → All (IsRowWithin count) (field_rows numbers n fs)
  field_rows_within n [] h = All-nil (IsRowWithin count)
  field_rows_within n (f ∷ fs) h =
      let next : ℕ = n + length (reference_rows numbers n f.value) in
      let sizes = length-append (reference_rows numbers n f.value) (field_rows numbers next fs) in
      All-append (IsRowWithin count) (reference_rows numbers n f.value) (field_rows numbers next fs) (reference_within n f.value (omega (arith, sizes))) (field_rows_within next fs (omega (arith, sizes)))

  target_below : (n at : ℕ) (t : Target) → n + length (target_rows numbers at t) ≤ count → (target_type numbers n t).0 < count
  target_below n at (T.Type t) h = named_below t.name
  target_below n at (T.Link t) h = omega arith

  target_rows_within : (at : ℕ) (t : Target) → All (IsRowWithin count) (target_rows numbers at t)
  target_rows_within at (T.Type t) = All-nil (IsRowWithin count)
  target_rows_within at (T.Link t) = All-cons (IsRowWithin count) _ [] (omega arith, one_below count _ (named_below t.name)) (All-nil (IsRowWithin count))

  members_below : (n : ℕ) (ms : List Member) → n + length (member_rows numbers ms) ≤ count → AreBelow count (map (λ m. m.ty.0) (members numbers n ms))
  members_below n [] h = none_below count
  members_below n (m ∷ ms) h =
      let next : ℕ = n + length (target_rows numbers m.at m.target) in
      let sizes = length-append (target_rows numbers m.at m.target) (member_rows numbers ms) in
      All-cons (λ k. k < count) _ (map (λ m. m.ty.0) (members numbers next ms)) (target_below n m.at m.target (omega (arith, sizes))) (members_below next ms (omega (arith, sizes)))

  member_rows_within : (ms : List Member) → All (IsRowWithin count) (member_rows numbers ms)
  member_rows_within [] = All-nil (IsRowWithin count)
  member_rows_within (m ∷ ms) =
      All-append (IsRowWithin count) (target_rows numbers m.at m.target) (member_rows numbers ms) (target_rows_within m.at m.target) (member_rows_within ms)

  length-fields : (n : ℕ) (fs : List Field) → length (fields numbers n fs) ≡ length fs
  length-fields n [] = refl
  length-fields n (f ∷ fs) = ap suc (length-fields (n + length (reference_rows numbers n f.value)) fs)

  length-members : (n : ℕ) (ms : List Member) → length (members numbers n ms) ≡ length ms
  length-members n [] = refl
  length-members n (m ∷ ms) = ap suc (length-members (n + length (target_rows numbers m.at m.target)) ms)

  -- ---- declarations

  pub body_within : (n : ℕ) (b : Body) → FewParts (body_events b) → n + length (body_rows numbers n b) ≤ count → IsWithin count (body_def numbers n b)
  body_within n (B.Copy t) few h = (omega arith, one_below count _ (named_below t.name))
  body_within n (B.Link t) few h = (omega arith, one_below count _ (named_below t.name))
  body_within n (B.List r) few h = (omega arith, one_below count _ (slot_below n r h))
  body_within n (B.Map m) few h = (omega arith, two_below count _ _ (named_below m.key.name) (slot_below n m.value h))
  body_within n (B.Struct s) few h = (omega (arith, length-fields n s.fields, fields_few 0 s.fields few (omega arith)), fields_below n s.fields h)
  body_within n (B.Union u) few h = (omega (arith, length-members n u.members, members_few 0 u.members few (omega arith)), members_below n u.members h)
  body_within n (B.Enum e) few h = (omega (arith, length-map e.members enum_member, enum_few 0 e.members few (omega arith)), none_below count)
  body_within n b few h = (omega arith, none_below count)

  body_rows_within : (n : ℕ) (b : Body) → n + length (body_rows numbers n b) ≤ count → All (IsRowWithin count) (body_rows numbers n b)
  body_rows_within n (B.List r) h = reference_within n r h
  body_rows_within n (B.Map m) h = reference_within n m.value h
  body_rows_within n (B.Struct s) h = field_rows_within n s.fields h
  body_rows_within n (B.Union u) h = member_rows_within u.members
  body_rows_within n b h = All-nil (IsRowWithin count)

  pub decl_within : (n : ℕ) (d : Decl) → FewParts (decl_events d) → n + length (decl_rows numbers n d) ≤ count → All (IsRowWithin count) (decl_rows numbers n d)
  decl_within n (A.Type d) few h =
      let inside : suc n + length (body_rows numbers (suc n) d.body) ≤ count = omega arith in
      All-cons (IsRowWithin count) _ (body_rows numbers (suc n) d.body) (body_within (suc n) d.body few inside) (body_rows_within (suc n) d.body inside)
  decl_within n (A.Advanced t) few h = All-nil (IsRowWithin count)

  pub decls_within : (n : ℕ) (ds : List Decl) → FewParts (flat_map decl_events ds) → n + length (decls_rows numbers n ds) ≤ count → All (IsRowWithin count) (decls_rows numbers n ds)
  decls_within n [] few h = All-nil (IsRowWithin count)
  decls_within n (d ∷ ds) few h =
      let next : ℕ = n + length (decl_rows numbers n d) in
      let sizes = length-append (decl_rows numbers n d) (decls_rows numbers next ds) in
      All-append (IsRowWithin count) (decl_rows numbers n d) (decls_rows numbers next ds) (decl_within n d (few_left (decl_events d) (flat_map decl_events ds) few) (omega (arith, sizes))) (decls_within next ds (few_right (decl_events d) (flat_map decl_events ds) few) (omega (arith, sizes)))

-- the prelude is within each table that begins with it
pub prelude_within : (count : ℕ) → 8 ≤ count → All (IsRowWithin count) prelude
prelude_within count h =
    let none : AreBelow count [] = none_below count in
    let any : AreBelow count (0 ∷ []) = one_below count 0 (omega arith) in
    let both : AreBelow count (7 ∷ 0 ∷ []) = two_below count 7 0 (omega arith) (omega arith) in
    let le : 0 ≤ 1024 = omega arith in
    All-from_recursion (IsRowWithin count) prelude ((le, none), ((le, none), ((le, none), ((le, none), ((le, any), ((le, any), ((le, both), ((le, none), tt))))))))
