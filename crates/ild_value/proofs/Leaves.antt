-- What is told of data by themselves, their parts apart.
use Rattle.std.proofs.Common.{cond, ◌≡◌, ℕ, List, [], ◌∷◌, Bool, true, false, not, Option, Some, None, refl, ap, sym, ◌∙◌, subst}
use Rattle.std.specs.Prelude.{ℤ, ◌+◌, ◌<◌, suc, IfSome, option_map, option_and_then, is_none, bytes_eq}
use Rattle.std.specs.List.{position_from}
use Rattle.std.proofs.Common.{add-zero, arith}
use Rattle.ild_data.specs.Key.{same_text}
use Rattle.ild_schema.specs.declared.def.EnumDef.{EnumDef}
use Rattle.ild_schema.specs.declared.def.EnumMember.{EnumMember}
use Rattle.ild_schema.specs.Copies.{base}
use Rattle.ild_schema.specs.Table.{def_at, parts_of}
use Rattle.ild_schema.specs.Parts.{part_named}
use Rattle.ild_value_meaning.specs.Names.{enum_named}
use Rattle.ild_data.specs.Data as D
use Rattle.ild_data.specs.Data.{Data}
use Rattle.ild_schema.specs.declared.def.TypeDef.{TypeDef}
use Rattle.ild_schema.specs.declared.def.TypeDef.TheVariants as T
use Rattle.ild_schema.specs.declared.number.Slot.{Slot}
use Rattle.ild_schema.specs.declared.number.TypeNo.{TypeNo}
use Rattle.ild_schema.specs.declared.row.Row.{Row}
use Rattle.ild_schema.specs.Slots.{form_of}
use Rattle.ild_schema.specs.Value as V
use Rattle.ild_schema.specs.Value.{Value}
use Rattle.ild_value_meaning.specs.Meant.{is_null}
use Rattle.ild_value_meaning.specs.MeantRead.{meant_items, readings, scalar_by, text_by, link_by, list_by, map_by}
use Rattle.ild_value_meaning.specs.Mismatch.{Rule, Kind, Member, breaks, breaks_member, is_kind}
use Rattle.ild_value.specs.Readings.{Breaks}
use Rattle.ild_value.specs.inside.Parts.{IsReadAs}

pub own : (rows : List Row) (slot : Slot) (t : Data) (rule : Rule) → ((is_key : ℕ → List ℕ → Bool) → breaks rows is_key slot t rule ≡ true) → Breaks rows slot t slot.ty rule
own rows slot t rule h = record { told = λ is_key tests. record { at = []; part = (slot, t); there = refl; type = refl; broken = h is_key } }

pub kind_breaks : (rows : List Row) (slot : Slot) (t : Data) → is_kind rows slot t ≡ false → Breaks rows slot t slot.ty Kind
kind_breaks rows slot t h = own rows slot t Kind (λ is_key. ap not h)

pub null_means : (rows : List Row) (slot : Slot) → slot.nullable ≡ true → IsReadAs rows slot D.null V.null
null_means rows slot h = record { read = λ is_key tests. ap (λ b. cond b (Some V.null) None) h }

pub bool_means : (rows : List Row) (slot : Slot) (b : Bool) → form_of rows slot ≡ Some T.Bool → IsReadAs rows slot (D.boolean b) (V.boolean b)
bool_means rows slot b f = record { read = λ is_key tests. ap (λ g. scalar_by T.Bool (V.boolean b) (D.boolean b) g) f }

pub int_means : (rows : List Row) (slot : Slot) (n : ℤ) → form_of rows slot ≡ Some T.Int → IsReadAs rows slot (D.integer n) (V.integer n)
int_means rows slot n f = record { read = λ is_key tests. ap (λ g. scalar_by T.Int (V.integer n) (D.integer n) g) f }

pub bytes_means : (rows : List Row) (slot : Slot) (s : List ℕ) → form_of rows slot ≡ Some T.Bytes → IsReadAs rows slot (D.bytes s) (V.bytes s)
bytes_means rows slot s f = record { read = λ is_key tests. ap (λ g. scalar_by T.Bytes (V.bytes s) (D.bytes s) g) f }

pub link_means : (rows : List Row) (slot : Slot) (target : TypeNo) (s : List ℕ) → form_of rows slot ≡ Some (T.Link target) → IsReadAs rows slot (D.link s) (V.link s)
link_means rows slot target s f = record { read = λ is_key tests. ap (λ g. link_by s g) f }

pub text_means : (rows : List Row) (slot : Slot) (s : List ℕ) → form_of rows slot ≡ Some T.Text → IsReadAs rows slot (D.text s) (V.text s)
text_means rows slot s f = record { read = λ is_key tests. ap (λ g. text_by s g) f }

pub any_means : (rows : List Row) (slot : Slot) (d : Data) → form_of rows slot ≡ Some T.Any → is_null d ≡ false → IsReadAs rows slot d (V.any d)
any_means rows slot D.null f h = absurd cc
any_means rows slot (D.boolean b) f h = record { read = λ is_key tests. ap (λ g. scalar_by T.Bool (V.boolean b) (D.boolean b) g) f }
any_means rows slot (D.integer n) f h = record { read = λ is_key tests. ap (λ g. scalar_by T.Int (V.integer n) (D.integer n) g) f }
any_means rows slot (D.text s) f h = record { read = λ is_key tests. ap (λ g. text_by s g) f }
any_means rows slot (D.bytes s) f h = record { read = λ is_key tests. ap (λ g. scalar_by T.Bytes (V.bytes s) (D.bytes s) g) f }
any_means rows slot (D.list ds) f h = record { read = λ is_key tests. ap (λ g. list_by (D.list ds) (λ elem. meant_items rows is_key elem ds) g) f }
any_means rows slot (D.map ms) f h = record { read = λ is_key tests. ap (λ g. map_by is_key ms (readings rows is_key ms) g) f }
any_means rows slot (D.link s) f h = record { read = λ is_key tests. ap (λ g. link_by s g) f }

-- ---- members of enums

place_by : (k : ℕ) (b : Bool) (o p : Option ℕ) → p ≡ option_map (λ n. k + 1 + n) o → cond b (Some k) p ≡ option_map (λ n. k + n) (cond b (Some 0) (option_map (λ n. suc n) o))
place_by k true o p h = ap Some (sym (add-zero k))
place_by k false None p h = h
place_by k false (Some n) p h = let e : k + 1 + n ≡ k + suc n = omega arith in h ∙ ap Some e

enum_place : (s : List ℕ) (ms : List EnumMember) (k : ℕ) → position_from (λ (m : EnumMember). bytes_eq s m.name) k ms ≡ option_map (λ n. k + n) (enum_named s ms)
enum_place s [] k = refl
enum_place s (m ∷ ms) k = place_by k (same_text s m.name) (enum_named s ms) (position_from (λ (m : EnumMember). bytes_eq s m.name) (k + 1) ms) (enum_place s ms (k + 1))

zero_more : (o : Option ℕ) → option_map (λ n. 0 + n) o ≡ o
zero_more None = refl
zero_more (Some n) = ap Some (omega arith)

enum_found : (rows : List Row) (slot : Slot) (e : EnumDef) (s : List ℕ) (r : Option ℕ) → form_of rows slot ≡ Some (T.Enum e) → r ≡ option_and_then (part_named s) (form_of rows slot) → enum_named s e.members ≡ r
enum_found rows slot e s r f h = sym (zero_more (enum_named s e.members)) ∙ sym (enum_place s e.members 0) ∙ sym (ap (option_and_then (part_named s)) f) ∙ sym h

pub enum_means : (rows : List Row) (slot : Slot) (e : EnumDef) (s : List ℕ) (n : ℕ) → form_of rows slot ≡ Some (T.Enum e) → Some n ≡ option_and_then (part_named s) (form_of rows slot) → IsReadAs rows slot (D.text s) (V.enum n)
enum_means rows slot e s n f h = record { read = λ is_key tests. ap (text_by s) f ∙ ap (option_map (λ n. V.enum n)) (enum_found rows slot e s (Some n) f h) }

pub enum_breaks : (rows : List Row) (slot : Slot) (e : EnumDef) (s : List ℕ) → form_of rows slot ≡ Some (T.Enum e) → None ≡ option_and_then (part_named s) (form_of rows slot) → Breaks rows slot (D.text s) slot.ty Member
enum_breaks rows slot e s f h = own rows slot (D.text s) Member (λ is_key. ap (λ g. breaks_member g (D.text s)) f ∙ ap is_none (enum_found rows slot e s None f h))

-- a part of a type has a number below the count of its parts
pub part_low : (rows : List Row) (b c n : ℕ) (d : TypeDef) → b ≡ c → def_at rows c ≡ Some d → IfSome (def_at rows b) (λ d. n < parts_of d) → n < parts_of d
part_low rows b c n d same f h = subst (λ o. IfSome o (λ d. n < parts_of d)) (ap (def_at rows) same ∙ f) h

-- the look-up of a part, by the type to which copies lead
pub looked : (rows : List Row) (slot : Slot) (b : ℕ) (r : Option ℕ) (s k : List ℕ) → b ≡ base rows slot.ty.0 → s ≡ k → r ≡ option_and_then (part_named s) (def_at rows b) → r ≡ option_and_then (part_named k) (form_of rows slot)
looked rows slot b r s k same text h = h ∙ ap (λ s. option_and_then (part_named s) (def_at rows b)) text ∙ ap (λ n. option_and_then (part_named k) (def_at rows n)) same
