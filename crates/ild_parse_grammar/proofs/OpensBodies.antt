-- Bodies, declarations and schemas go on to a text of their rule.
use Rattle.std.proofs.Common.{◌≡◌, ℕ, zero, suc, ◌+◌, ◌<◌, Bool, true, false, cond, List, [], ◌∷◌, ◌++◌, length, Result, Ok, Err, refl, ap, ◌∙◌, inl, inr, arith}
use Rattle.std.specs.Prelude.{codes, ◌⊎◌}
use Rattle.ild_parse_grammar.specs.declared.ast.Decl.TheVariants as DV
use Rattle.ild_parse_grammar.specs.declared.ast.TypeDecl.{TypeDecl}
use Rattle.ild_parse_grammar.specs.declared.ast.Body.TheVariants as BV
use Rattle.ild_parse_grammar.specs.declared.ast.UnitForm.{UnitForm}
use Rattle.ild_parse_grammar.specs.Sign.{Sign}
use Rattle.ild_parse_grammar.proofs.Stream.{Stream, begins, most, is_end, none_left}
use Rattle.ild_parse_grammar.proofs.Read.{◌>>=◌, type_name_at, many_at}
use Rattle.ild_parse_grammar.proofs.Form.{map_form_at, struct_form_at, union_form_at, enum_form_at, unit_form_at}
use Rattle.ild_parse_grammar.proofs.Part.{field_at, member_at, enum_member_at}
use Rattle.ild_parse_grammar.proofs.Grammar.{braced_at, map_at, struct_at, union_at, enum_at, unit_at, list_at, scalar_at, body_at, type_decl_at, decl_at}
use Rattle.ild_parse_grammar.specs.Derive.{AreParts, AreBraced}
use Rattle.ild_parse_grammar.specs.DeriveForm.{IsMapForm, IsStructForm, IsUnionForm, IsEnumForm, IsUnitForm}
use Rattle.ild_parse_grammar.specs.DerivePart.{IsField, IsMember, IsEnumMember, IsMap, IsStruct, IsUnion, IsEnum, IsBody, IsDecl}
use Rattle.ild_parse_grammar.proofs.Complete.{reading}
use Rattle.ild_parse_grammar.proofs.Local.{IsNext, Stops, same_self, same_behind, see_behind}
use Rattle.ild_parse_grammar.proofs.Shorter.{field_shorter, member_shorter, enum_member_shorter, decl_shorter}
use Rattle.ild_parse_grammar.proofs.Opens.{Opens, Opened, Reads, Waits, Behind, opens_shift, opens_pure, opens_bind, opens_sound, part_then, word_then, all_read, read_as, either, choice, alone, last_alone}
use Rattle.ild_parse_grammar.proofs.OpensForms.{type-opens, map_form-opens, struct_form-opens, union_form-opens, enum_form-opens, unit_form-opens, optional_form-opens, needed_form-opens}
use Rattle.ild_parse_grammar.proofs.OpensParts.{reference-opens, field-opens, member-opens, enum_member-opens}

-- ---- parts that repeat

-- what is read has a token or more
abbrev IsLess : {A : Type 0} → (Stream → Result (A × Stream) ℕ) → Type 0
IsLess {A} one = (s : Stream) (y : A × Stream) → one s ≡ Ok y → length y.1.signs < length s.signs

read_on : {A : Type 0} → (Stream → Result (A × Stream) ℕ) → (Stream → Bool) → ℕ → A × Stream → Result (List A × Stream) ℕ
read_on one ends n x = many_at one ends n x.1 >>= (λ xs. Ok (x.0 ∷ xs.0, xs.1))

-- more room than tokens is enough room
room_alike : {A : Type 0} (one : Stream → Result (A × Stream) ℕ) (ends : Stream → Bool) → IsLess one → (n m : ℕ) (s : Stream) → length s.signs < n → length s.signs < m → many_at one ends n s ≡ many_at one ends m s
unfolding many_at read_on
room_alike one ends less zero m s small little = absurd (omega (arith, small))
room_alike one ends less (suc n) zero s small little = absurd (omega (arith, little))
room_alike {A} one ends less (suc n) (suc m) s small little = ap (λ (r : Result (List A × Stream) ℕ). cond (ends s) (Ok ([], s)) r) (each (λ x q. let l = less s x q in room_alike one ends less n m x.1 (omega (arith, l, small)) (omega (arith, l, little))) (one s) refl)
  where
    each : ((x : A × Stream) → one s ≡ Ok x → many_at one ends n x.1 ≡ many_at one ends m x.1) → (r : Result (A × Stream) ℕ) → one s ≡ r → (r >>= read_on one ends n) ≡ (r >>= read_on one ends m)
    each again (Err e) q = refl
    each again (Ok x) q = ap (λ (z : Result (List A × Stream) ℕ). z >>= (λ xs. Ok (x.0 ∷ xs.0, xs.1))) (again x q)

all_of : {A : Type 0} → (Stream → Result (A × Stream) ℕ) → (Stream → Bool) → Stream → Result (List A × Stream) ℕ
all_of one ends s = many_at one ends (most s) s

all_end : {A : Type 0} (one : Stream → Result (A × Stream) ℕ) (ends : Stream → Bool) (s : Stream) → ends s ≡ true → all_of one ends s ≡ Ok ([], s)
unfolding all_of many_at
all_end one ends s q =
    let k : most s ≡ suc (length s.signs) = omega arith in
    rw (k, q) refl

all_stop : {A : Type 0} (one : Stream → Result (A × Stream) ℕ) (ends : Stream → Bool) (s : Stream) (at : ℕ) → ends s ≡ false → one s ≡ Err at → all_of one ends s ≡ Err at
unfolding all_of many_at
all_stop one ends s at q h =
    let k : most s ≡ suc (length s.signs) = omega arith in
    rw (k, q, h) refl

all_more : {A : Type 0} (one : Stream → Result (A × Stream) ℕ) (ends : Stream → Bool) → IsLess one → (s : Stream) (x : A × Stream) → ends s ≡ false → one s ≡ Ok x → all_of one ends s ≡ (all_of one ends x.1 >>= (λ xs. Ok (x.0 ∷ xs.0, xs.1)))
unfolding all_of many_at
all_more one ends less s x q h =
    let k : most s ≡ suc (length s.signs) = omega arith in
    let l = less s x h in
    rw (k, q, h, room_alike one ends less (length s.signs) (most x.1) x.1 l (omega arith)) refl

opens_many : {A : Type 0} (end : ℕ) (one : Stream → Result (A × Stream) ℕ) (part : A → List Sign → List Sign → Type 0) (ends : List Sign → Bool) → IsNext ends → IsLess one → ((xs : List Sign) → Opens one part end xs)
    → (n : ℕ) (xs : List Sign) → length xs < n → Opens (all_of one (λ s. ends s.signs)) (AreParts part) end xs
opens_many end one part ends next less each zero xs small = absurd (omega (arith, small))
opens_many {A} end one part ends next less each (suc n) xs small =
    let Q : Bool → Type 0 = λ v. ends xs ≡ v → Opens (all_of one (λ s. ends s.signs)) (AreParts part) end xs in
    (elim (ends xs) as Q [ true ↦ ended | false ↦ λ q. going (λ ys l. opens_many end one part ends next less each n ys (omega (arith, l, small))) q (each xs).is ]) refl
  where
    F : Stream → Result (List A × Stream) ℕ
    F = all_of one (λ s. ends s.signs)

    ended : ends xs ≡ true → Opens F (AreParts part) end xs
    ended q = record {
      is = inl (record {
        found = record { part = []; front = []; rest = xs; are = refl; read = λ zs same. all_end one (λ s. ends s.signs) (reading end zs) (see_behind ends next xs [] xs zs refl same ∙ q) };
        whole = λ ws. refl;
      });
    }

    stopped : ends xs ≡ false → Waits one part end xs → Opens F (AreParts part) end xs
    stopped q h =
        let stops : Stops F end xs = record {
          front = h.stops.front;
          rest = h.stops.rest;
          are = h.stops.are;
          fails = λ zs same. all_stop one (λ s. ends s.signs) (reading end (h.stops.front ++ zs)) _ (see_behind ends next xs h.stops.front h.stops.rest zs h.stops.are same ∙ q) (h.stops.fails zs same);
        } in
        record { is = inr (record { stops = stops; grows = record { more = h.grows.more; made = h.grows.made ∷ []; whole = λ ws. (ws, h.grows.whole ws, refl) } }) }

    further : (h : Reads one part end xs) → Opens F (AreParts part) end h.found.rest → Opens (λ s. F s >>= (λ us. Ok (h.found.part ∷ us.0, us.1))) (Behind (AreParts part) h.found.front) end h.found.rest
    further h o =
        opens_bind (AreParts part) (Behind (AreParts part) h.found.front) end F (λ us s. Ok (h.found.part ∷ us, s))
        (λ us front d. opens_pure (h.found.part ∷ us) (Behind (Behind (AreParts part) h.found.front) front) end (λ ws. (front ++ ws, h.whole (front ++ ws), d ws))) h.found.rest o

    more : ends xs ≡ false → (h : Reads one part end xs) → Opens F (AreParts part) end h.found.rest → Opens F (AreParts part) end xs
    more q h o =
        opens_shift F (λ s. F s >>= (λ us. Ok (h.found.part ∷ us.0, us.1))) (AreParts part) end h.found.front h.found.rest xs h.found.are
        (λ front rest zs are same.
        let behind = same_behind h.found.rest front rest zs are same in
        all_more one (λ s. ends s.signs) less (reading end (h.found.front ++ (front ++ zs))) (h.found.part, reading end (front ++ zs)) (see_behind ends next xs h.found.front h.found.rest (front ++ zs) h.found.are behind ∙ q) (h.found.read (front ++ zs) behind))
        (further h o)

    shorter : (h : Reads one part end xs) → length h.found.rest < length xs
    shorter h = less (reading end xs) (h.found.part, reading end h.found.rest) (rw h.found.are (h.found.read h.found.rest (same_self h.found.rest)))

    going : ((ys : List Sign) → length ys < length xs → Opens F (AreParts part) end ys) → ends xs ≡ false → Reads one part end xs ⊎ Waits one part end xs → Opens F (AreParts part) end xs
    going again q (inl h) = more q h (again h.found.rest (shorter h))
    going again q (inr h) = stopped q h

all-opens : {A : Type 0} (one : Stream → Result (A × Stream) ℕ) (part : A → List Sign → List Sign → Type 0) (ends : List Sign → Bool) → IsNext ends → IsLess one → (end : ℕ) → ((xs : List Sign) → Opens one part end xs)
    → (xs : List Sign) → Opens (all_of one (λ s. ends s.signs)) (AreParts part) end xs
all-opens one part ends next less end each xs = opens_many end one part ends next less each (length xs + 1) xs (omega arith)

field_less : IsLess field_at
field_less s y e = field_shorter y.0 s.signs y.1.signs (opens_sound field_at IsField s.end s.signs y (field-opens s.end s.signs) e)

member_less : IsLess member_at
member_less s y e = member_shorter y.0 s.signs y.1.signs (opens_sound member_at IsMember s.end s.signs y (member-opens s.end s.signs) e)

enum_member_less : IsLess enum_member_at
enum_member_less s y e = enum_member_shorter y.0 s.signs y.1.signs (opens_sound enum_member_at IsEnumMember s.end s.signs y (enum_member-opens s.end s.signs) e)

-- ---- bodies

-- the texts of a unit, and of a declaration of a type
abbrev IsUnit : UnitForm → List Sign → List Sign → Type 0
IsUnit f xs ys = IsBody (BV.Unit f) xs ys

abbrev IsTypeDecl : TypeDecl → List Sign → List Sign → Type 0
IsTypeDecl d xs ys = IsDecl (DV.Type d) xs ys

pub braced-opens : {A : Type 0} (one : Stream → Result (A × Stream) ℕ) (part : A → List Sign → List Sign → Type 0) → IsLess one → (end : ℕ) → Opened one part end → Opened (braced_at one) (AreBraced part) end
unfolding braced_at all_of
braced-opens one part less end each =
    word_then (λ t e. part_then _ (all-opens one part (begins (codes "}")) (λ v us vs. refl) less end each) (λ a front d. word_then (λ u c. all_read (λ ws. (front ++ (u ∷ ws), u ∷ ws, (e.0, e.1, refl), d (u ∷ ws), (c.0, c.1, refl))))))

pub map-opens : (end : ℕ) → Opened map_at IsMap end
unfolding map_at
map-opens end =
    word_then (λ t e. part_then _ (type-opens end) (λ k front d. word_then (λ u c. part_then _ (reference-opens end) (λ r other o. word_then (λ v b. part_then _ (optional_form-opens map_form_at IsMapForm end (map_form-opens end)) (λ f form q. all_read (λ ws.
    let last : List Sign = form ++ ws in
    let value : List Sign = other ++ (v ∷ last) in
    (front ++ (u ∷ value), u ∷ value, value, v ∷ last, last, (e.0, e.1, refl), d (u ∷ value), (c.0, c.1, refl), o (v ∷ last), (b.0, b.1, refl), q ws))))))))

pub struct-opens : (end : ℕ) → Opened struct_at IsStruct end
unfolding struct_at
struct-opens end =
    word_then (λ t e. part_then _ (braced-opens field_at IsField field_less end (field-opens end)) (λ fs front d. part_then _ (optional_form-opens struct_form_at IsStructForm end (struct_form-opens end)) (λ f form q.
    all_read (λ ws. (front ++ (form ++ ws), form ++ ws, (e.0, e.1, refl), d (form ++ ws), q ws)))))

pub union-opens : (end : ℕ) → Opened union_at IsUnion end
unfolding union_at
union-opens end =
    word_then (λ t e. part_then _ (braced-opens member_at IsMember member_less end (member-opens end)) (λ ms front d. part_then _ (needed_form-opens union_form_at IsUnionForm end (union_form-opens end)) (λ f form q.
    all_read (λ ws. (front ++ (form ++ ws), form ++ ws, (e.0, e.1, refl), d (form ++ ws), q ws)))))

pub enum-opens : (end : ℕ) → Opened enum_at IsEnum end
unfolding enum_at
enum-opens end =
    word_then (λ t e. part_then _ (braced-opens enum_member_at IsEnumMember enum_member_less end (enum_member-opens end)) (λ ms front d. part_then _ (optional_form-opens enum_form_at IsEnumForm end (enum_form-opens end)) (λ f form q.
    all_read (λ ws. (front ++ (form ++ ws), form ++ ws, (e.0, e.1, refl), d (form ++ ws), q ws)))))

pub unit-opens : (end : ℕ) → Opened unit_at IsUnit end
unfolding unit_at
unit-opens end = word_then (λ t e. read_as (needed_form-opens unit_form_at IsUnitForm end (unit_form-opens end)) (λ f front d ws. (front ++ ws, (e.0, e.1, refl), d ws)))

pub list-opens : (end : ℕ) → Opened list_at IsBody end
unfolding list_at
list-opens end = word_then (λ t e. part_then _ (reference-opens end) (λ r front d. word_then (λ u c. all_read (λ ws. (front ++ (u ∷ ws), u ∷ ws, (e.0, e.1, refl), d (u ∷ ws), (c.0, c.1, refl))))))

pub scalar-opens : (end : ℕ) → Opened scalar_at IsBody end
unfolding scalar_at
scalar-opens end =
    alone (codes "bool") BV.Bool (λ t e ws. (e.0, e.1, refl))
    (alone (codes "string") BV.String (λ t e ws. (e.0, e.1, refl))
    (alone (codes "bytes") BV.Bytes (λ t e ws. (e.0, e.1, refl))
    (alone (codes "int") BV.Int (λ t e ws. (e.0, e.1, refl))
    (choice (codes "float") (λ n s. Ok (BV.Float n, s)) (λ t e. all_read (λ ws. ((e.0, e.1, refl), refl)))
    (last_alone (codes "any") BV.Any (λ t e ws. (e.0, e.1, refl)))))))

pub body-opens : (end : ℕ) → Opened body_at IsBody end
unfolding body_at
body-opens end =
    choice (codes "=") (λ n s. type_name_at s >>= (λ m. Ok (BV.Copy m.0, m.1))) (λ t e. part_then _ (type-opens end) (λ m front d. all_read (λ ws. (front ++ ws, (e.0, e.1, refl), d ws))))
    (choice (codes "&") (λ n s. type_name_at s >>= (λ m. Ok (BV.Link m.0, m.1))) (λ t e. part_then _ (type-opens end) (λ m front d. all_read (λ ws. (front ++ ws, (e.0, e.1, refl), d ws))))
    (either (begins (codes "[")) (λ t us zs. refl) (list-opens end)
    (either (begins (codes "{")) (λ t us zs. refl) (part_then _ (map-opens end) (λ b front d. all_read d))
    (either (begins (codes "struct")) (λ t us zs. refl) (part_then _ (struct-opens end) (λ b front d. all_read d))
    (either (begins (codes "union")) (λ t us zs. refl) (part_then _ (union-opens end) (λ b front d. all_read d))
    (either (begins (codes "enum")) (λ t us zs. refl) (part_then _ (enum-opens end) (λ b front d. all_read d))
    (either (begins (codes "unit")) (λ t us zs. refl) (part_then _ (unit-opens end) (λ b front d. all_read d))
    (scalar-opens end))))))))

pub type_decl-opens : (end : ℕ) → Opened type_decl_at IsTypeDecl end
unfolding type_decl_at
type_decl-opens end =
    word_then (λ t e. part_then _ (type-opens end) (λ n front d. part_then _ (body-opens end) (λ b other o. all_read (λ ws. (front ++ (other ++ ws), other ++ ws, (e.0, e.1, refl), d (other ++ ws), o ws)))))

pub decl-opens : (end : ℕ) → Opened decl_at IsDecl end
unfolding decl_at
decl-opens end =
    choice (codes "advanced") (λ n s. type_name_at s >>= (λ m. Ok (DV.Advanced m.0, m.1))) (λ t e. part_then _ (type-opens end) (λ m front d. all_read (λ ws. (front ++ ws, (e.0, e.1, refl), d ws))))
    (part_then _ (type_decl-opens end) (λ b front d. all_read d))

decl_less : IsLess decl_at
decl_less s y e = decl_shorter y.0 s.signs y.1.signs (opens_sound decl_at IsDecl s.end s.signs y (decl-opens s.end s.signs) e)

pub decls-opens : (end : ℕ) → Opened (λ s. many_at decl_at is_end (most s) s) (AreParts IsDecl) end
unfolding all_of
decls-opens end = all-opens decl_at IsDecl none_left (λ t us zs. refl) decl_less end (decl-opens end)
