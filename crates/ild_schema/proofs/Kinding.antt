-- Sets of kinds, asked of one kind.
use Rattle.std.proofs.Common.{◌≡◌, ◌⊎◌, inl, inr, Bool, true, false, ◌&&◌, ◌||◌, not, List, [], ◌∷◌, Option, Some, None, refl, sym, ap, ◌∙◌}
use Rattle.std.specs.List.{list_any}
use Rattle.ild_schema.specs.declared.def.TypeDef.{TypeDef}
use Rattle.ild_schema.specs.declared.def.TypeDef.TheVariants as D
use Rattle.ild_schema.specs.declared.def.UnitForm.{UnitForm}
use Rattle.ild_schema.specs.declared.def.UnitForm.TheVariants as N
use Rattle.ild_schema.specs.declared.def.MapForm.{MapForm}
use Rattle.ild_schema.specs.declared.def.MapForm.TheVariants as M
use Rattle.ild_schema.specs.declared.def.StructForm.{StructForm}
use Rattle.ild_schema.specs.declared.def.StructForm.TheVariants as S
use Rattle.ild_schema.specs.declared.def.UnionForm.{UnionForm}
use Rattle.ild_schema.specs.declared.def.UnionForm.TheVariants as U
use Rattle.ild_schema.specs.declared.def.EnumForm.{EnumForm}
use Rattle.ild_schema.specs.declared.def.EnumForm.TheVariants as E
use Rattle.ild_schema.specs.declared.def.Member.{Member}
use Rattle.ild_schema.specs.declared.def.Mark.{Mark}
use Rattle.ild_schema.specs.declared.def.Mark.TheVariants as K
use Rattle.ild_schema.specs.declared.def.KindWord.{KindWord}
use Rattle.ild_schema.specs.declared.def.KindWord.TheVariants as W
use Rattle.ild_schema.specs.declared.kinds.Kinds.{Kinds}
use Rattle.ild_schema.specs.DataKinds as asked
use Rattle.ild_schema.specs.DataKinds.{same_kind, is_marked, slot_has, kind_in, unit_kind, map_kind, struct_kind, enum_kind, union_has, KindsAreTold}
use Rattle.ild_schema.specs.Kinds.{no_kinds, all_but_null, with_kind, without_kind, has_kind, has_none, has_only, only, with_mark, with_declared, declared_kinds, struct_kinds, map_kinds, union_kinds, enum_kinds, unit_kinds, def_kinds, kinds_in, meant}
use Rattle.ild_schema.specs.Marks.{mark_kind}

only_has : (k w : KindWord) → has_kind w (only k) ≡ same_kind k w
only_has W.Null W.Null = refl
only_has W.Bool W.Null = refl
only_has W.Int W.Null = refl
only_has W.Text W.Null = refl
only_has W.Bytes W.Null = refl
only_has W.List W.Null = refl
only_has W.Map W.Null = refl
only_has W.Link W.Null = refl
only_has k w = refl

with_has : (k w : KindWord) (ks : Kinds) → has_kind w (with_kind k ks) ≡ same_kind k w || has_kind w ks
with_has W.Null W.Null ks = refl
with_has W.Bool W.Null ks = refl
with_has W.Int W.Null ks = refl
with_has W.Text W.Null ks = refl
with_has W.Bytes W.Null ks = refl
with_has W.List W.Null ks = refl
with_has W.Map W.Null ks = refl
with_has W.Link W.Null ks = refl
with_has k w ks = refl

any_has : (w : KindWord) → has_kind w all_but_null ≡ not (same_kind W.Null w)
any_has W.Null = refl
any_has w = refl

none_has : (w : KindWord) → has_kind w no_kinds ≡ false
none_has W.Null = refl
none_has w = refl

or_nothing : (b : Bool) → b ≡ b || false
or_nothing true = refl
or_nothing false = refl

or_swap : (a b : Bool) → a || b ≡ b || a
or_swap true true = refl
or_swap true false = refl
or_swap false true = refl
or_swap false false = refl

or_regroup : (a b c : Bool) → (a || b) || c ≡ a || (b || c)
or_regroup true b c = refl
or_regroup false b c = refl

mark_has : (w : KindWord) (mark : Mark) (ks : Kinds) → has_kind w (with_mark mark ks) ≡ has_kind w ks || is_marked w (mark_kind mark)
mark_has w K.Bare ks = or_nothing (has_kind w ks)
mark_has w (K.Text t) ks = or_nothing (has_kind w ks)
mark_has w (K.Kind k) ks = with_has k w ks ∙ or_swap (same_kind k w) (has_kind w ks)

declared_has : (w : KindWord) (ks : Kinds) (ms : List Member) → has_kind w (with_declared ks ms) ≡ has_kind w ks || list_any (λ m. is_marked w (mark_kind m.mark)) ms
declared_has w ks [] = or_nothing (has_kind w ks)
declared_has w ks (m ∷ ms) =
    declared_has w (with_mark m.mark ks) ms ∙ ap (λ b. b || list_any (λ n. is_marked w (mark_kind n.mark)) ms) (mark_has w m.mark ks)
    ∙ or_regroup (has_kind w ks) (is_marked w (mark_kind m.mark)) (list_any (λ n. is_marked w (mark_kind n.mark)) ms)

-- the kinds that are declared behind members
pub members_have : (w : KindWord) (ms : List Member) → has_kind w (declared_kinds ms) ≡ list_any (λ m. is_marked w (mark_kind m.mark)) ms
members_have w ms = declared_has w no_kinds ms ∙ ap (λ b. b || list_any (λ m. is_marked w (mark_kind m.mark)) ms) (none_has w)

unit_has : (form : UnitForm) (w : KindWord) → has_kind w (unit_kinds form) ≡ same_kind (unit_kind form) w
unit_has N.Null w = only_has W.Null w
unit_has N.True w = only_has W.Bool w
unit_has N.False w = only_has W.Bool w
unit_has N.EmptyMap w = only_has W.Map w

map_has : (form : MapForm) (w : KindWord) → has_kind w (map_kinds form) ≡ same_kind (map_kind form) w
map_has M.Map w = only_has W.Map w
map_has M.ListPairs w = only_has W.List w
map_has (M.StringPairs inner entry) w = only_has W.Text w
map_has (M.Hamt p) w = only_has W.Map w

struct_has : (form : StructForm) (w : KindWord) → has_kind w (struct_kinds form) ≡ same_kind (struct_kind form) w
struct_has S.Map w = only_has W.Map w
struct_has S.Tuple w = only_has W.List w
struct_has S.ListPairs w = only_has W.List w
struct_has (S.StringPairs inner entry) w = only_has W.Text w
struct_has (S.StringJoin delim) w = only_has W.Text w

enum_has : (form : EnumForm) (w : KindWord) → has_kind w (enum_kinds form) ≡ same_kind (enum_kind form) w
enum_has E.Text w = only_has W.Text w
enum_has E.Int w = only_has W.Int w

union_has_lem : (form : UnionForm) (ms : List Member) (w : KindWord) → has_kind w (union_kinds form ms) ≡ union_has form ms w
union_has_lem U.Keyed ms w = only_has W.Map w
union_has_lem U.Kinded ms w = members_have w ms
union_has_lem U.StringPrefix ms w = only_has W.Text w
union_has_lem U.BytesPrefix ms w = only_has W.Bytes w
union_has_lem (U.Envelope key content) ms w = only_has W.Map w
union_has_lem (U.Inline key) ms w = only_has W.Map w

def_has : (d : TypeDef) (w : KindWord) → has_kind w (def_kinds d) ≡ asked.has_kind d w
def_has D.Bool w = only_has W.Bool w
def_has D.Text w = only_has W.Text w
def_has D.Bytes w = only_has W.Bytes w
def_has D.Int w = only_has W.Int w
def_has D.Any w = any_has w
def_has (D.Link target) w = only_has W.Link w
def_has (D.Unit form) w = unit_has form w
def_has (D.List elem at) w = only_has W.List w
def_has (D.Map key key_at value at form) w = map_has form w
def_has (D.Struct s) w = struct_has s.form w
def_has (D.Union u) w = union_has_lem u.form u.members w
def_has (D.Enum e) w = enum_has e.form w
def_has (D.Copy target) w = none_has w

in_has : (o : Option TypeDef) (w : KindWord) → has_kind w (kinds_in o) ≡ kind_in o w
in_has None w = none_has w
in_has (Some d) w = def_has d w

pub kinds_told : KindsAreTold
kinds_told rows s k = in_has (meant rows s.ty.0) k

-- ---- one kind alone

one_or_kept : (w l : KindWord) (ks : Kinds) → (l ≡ w) ⊎ (has_kind l (without_kind w ks) ≡ has_kind l ks)
one_or_kept W.Null W.Null ks = inl refl
one_or_kept W.Bool W.Bool ks = inl refl
one_or_kept W.Int W.Int ks = inl refl
one_or_kept W.Text W.Text ks = inl refl
one_or_kept W.Bytes W.Bytes ks = inl refl
one_or_kept W.List W.List ks = inl refl
one_or_kept W.Map W.Map ks = inl refl
one_or_kept W.Link W.Link ks = inl refl
one_or_kept w l ks = inr refl

left : (a b : Bool) → a || b ≡ false → a ≡ false
left true b h = h
left false b h = refl

right : (a b : Bool) → a || b ≡ false → b ≡ false
right true b h = absurd cc
right false b h = h

none_of : (a b c d e f g h : Bool) → not (a || b || c || d || e || f || g || h) ≡ true → a || b || c || d || e || f || g || h ≡ false
none_of a b c d e f g h k = by (a || b || c || d || e || f || g || h) k
  where
    by : (x : Bool) → not x ≡ true → x ≡ false
    by true k = absurd cc
    by false k = refl

none_there : (ks : Kinds) → has_none ks ≡ true → (l : KindWord) → has_kind l ks ≡ false
none_there ks h l = by l (none_of ks.null ks.boolean ks.int ks.text ks.bytes ks.list ks.map ks.link h)
  where
    by : (l : KindWord) → ks.null || ks.boolean || ks.int || ks.text || ks.bytes || ks.list || ks.map || ks.link ≡ false → has_kind l ks ≡ false
    by W.Null e =
        left (ks.null) ks.boolean (left (ks.null || ks.boolean) ks.int (left (ks.null || ks.boolean || ks.int) ks.text (left (ks.null || ks.boolean || ks.int || ks.text) ks.bytes
        (left (ks.null || ks.boolean || ks.int || ks.text || ks.bytes) ks.list (left (ks.null || ks.boolean || ks.int || ks.text || ks.bytes || ks.list) ks.map (left (ks.null || ks.boolean || ks.int || ks.text || ks.bytes || ks.list || ks.map) ks.link e))))))
    by W.Bool e =
        right (ks.null) ks.boolean (left (ks.null || ks.boolean) ks.int (left (ks.null || ks.boolean || ks.int) ks.text (left (ks.null || ks.boolean || ks.int || ks.text) ks.bytes
        (left (ks.null || ks.boolean || ks.int || ks.text || ks.bytes) ks.list (left (ks.null || ks.boolean || ks.int || ks.text || ks.bytes || ks.list) ks.map (left (ks.null || ks.boolean || ks.int || ks.text || ks.bytes || ks.list || ks.map) ks.link e))))))
    by W.Int e =
        right (ks.null || ks.boolean) ks.int (left (ks.null || ks.boolean || ks.int) ks.text (left (ks.null || ks.boolean || ks.int || ks.text) ks.bytes (left (ks.null || ks.boolean || ks.int || ks.text || ks.bytes) ks.list
        (left (ks.null || ks.boolean || ks.int || ks.text || ks.bytes || ks.list) ks.map (left (ks.null || ks.boolean || ks.int || ks.text || ks.bytes || ks.list || ks.map) ks.link e)))))
    by W.Text e =
        right (ks.null || ks.boolean || ks.int) ks.text (left (ks.null || ks.boolean || ks.int || ks.text) ks.bytes (left (ks.null || ks.boolean || ks.int || ks.text || ks.bytes) ks.list
        (left (ks.null || ks.boolean || ks.int || ks.text || ks.bytes || ks.list) ks.map (left (ks.null || ks.boolean || ks.int || ks.text || ks.bytes || ks.list || ks.map) ks.link e))))
    by W.Bytes e =
        right (ks.null || ks.boolean || ks.int || ks.text) ks.bytes (left (ks.null || ks.boolean || ks.int || ks.text || ks.bytes) ks.list
        (left (ks.null || ks.boolean || ks.int || ks.text || ks.bytes || ks.list) ks.map (left (ks.null || ks.boolean || ks.int || ks.text || ks.bytes || ks.list || ks.map) ks.link e)))
    by W.List e = right (ks.null || ks.boolean || ks.int || ks.text || ks.bytes) ks.list (left (ks.null || ks.boolean || ks.int || ks.text || ks.bytes || ks.list) ks.map (left (ks.null || ks.boolean || ks.int || ks.text || ks.bytes || ks.list || ks.map) ks.link e))
    by W.Map e = right (ks.null || ks.boolean || ks.int || ks.text || ks.bytes || ks.list) ks.map (left (ks.null || ks.boolean || ks.int || ks.text || ks.bytes || ks.list || ks.map) ks.link e)
    by W.Link e = right (ks.null || ks.boolean || ks.int || ks.text || ks.bytes || ks.list || ks.map) ks.link e

both : (a b : Bool) → a && b ≡ true → b ≡ true
both true b h = h
both false b h = absurd cc

-- kinds that are one alone have no other
pub only_one : (w l : KindWord) (ks : Kinds) → has_only w ks ≡ true → has_kind l ks ≡ true → l ≡ w
only_one w l ks h k = by (one_or_kept w l ks)
  where
    by : ((l ≡ w) ⊎ (has_kind l (without_kind w ks) ≡ has_kind l ks)) → l ≡ w
    by (inl e) = e
    by (inr e) =
        let none : has_kind l (without_kind w ks) ≡ false = none_there (without_kind w ks) (both (has_kind w ks) (has_none (without_kind w ks)) h) l in
        let wrong : true ≡ false = sym k ∙ sym e ∙ none in
        absurd cc
