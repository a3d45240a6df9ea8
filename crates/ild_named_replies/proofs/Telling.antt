-- What is told of a part, by two tables that are alike.
use Rattle.std.proofs.Common.{◌≡◌, ℕ, ◌+◌, ◌<◌, List, [], ◌∷◌, length, map, Option, Some, None, refl, ap, ap₂, ◌∙◌, arith}
use Rattle.std.specs.Prelude.{option_map}
use Rattle.std.specs.List.{AllByRecursion}
use Rattle.std.specs.Option.{option_map_or}
use Rattle.ild_data.specs.Data as D
use Rattle.ild_data.specs.Data.{Data, items_of}
use Rattle.ild_data.specs.Spell.{id_of}
use Rattle.ild_schema.specs.declared.number.TypeNo.{TypeNo}
use Rattle.ild_schema.specs.declared.number.Slot.{Slot}
use Rattle.ild_schema.specs.declared.def.TypeDef.{TypeDef}
use Rattle.ild_schema.specs.declared.def.TypeDef.TheVariants as T
use Rattle.ild_schema.specs.declared.def.Field.{Field}
use Rattle.ild_schema.specs.declared.row.Row.{Row}
use Rattle.ild_schema.specs.Prelude.{anything}
use Rattle.ild_schema.specs.Slots.{form_of, plainly}
use Rattle.ild_schema.specs.Table.{IsTable}
use Rattle.ild_schema.specs.Value as V
use Rattle.ild_schema.specs.Value.{Value, Values, Pairs, Optionals, values_list, pairs_list, optionals_list}
use Rattle.ild_path_edits.specs.Judged.{Tests}
use Rattle.ild_typed.specs.At.{InSlot, seen, at}
use Rattle.ild_typed.specs.Hamt.{whole}
use Rattle.ild_typed.specs.Holder.{list_holder, map_holder, struct_holder, union_holder, any_holder, holder_of, of_any}
use Rattle.ild_typed.specs.Represented.{represented}
use Rattle.ild_typed.specs.Shown.{shown}
use Rattle.ild_typed.specs.Stands.{bare, root_id}
use Rattle.ild_named.specs.Named.{named, named_data, schema_block}
use Rattle.ild_script.specs.declared.reply.Reply.TheVariants as R
use Rattle.ild_named_type.specs.Root.{named_rows}
use Rattle.ild_named_law.proofs.Alike.{AreAlike, IsLowIn, low_form, low_parts}
use Rattle.ild_named_law.proofs.Known.{alike_longer}
use Rattle.ild_named_law.proofs.Entered.{paths_lead}
use Rattle.ild_named_law.proofs.Pathing.{IsLowSlot, at_low, holder_same, shown_same}
use Rattle.ild_named_law.proofs.Rooting.{root_tree}
use Rattle.ild_named_law.proofs.Standing.{tree_same}
use Rattle.ild_script_meaning.specs.Ask.{Tell, shown_form, representation, presence, count, list_of_parts}
use Rattle.ild_script_meaning.specs.Lines.{told, told_of}
use Rattle.ild_script_meaning.specs.Reads.{Named, present_fields, numbered, parts, counted, pair_of, walked}
use Rattle.ild_named_replies.specs.Replies.{ReadsAreAlike, RootsAreTold, on_struct, under_name}

-- ---- the listed parts are of low types

abbrev AreLow : ℕ → List Named → Type 0
AreLow bound ps = AllByRecursion (λ (p : Named). IsLowSlot bound p.1) ps

fields_low : (bound : ℕ) (fs : List Field) (os : List (Option Value)) → AllByRecursion (λ (f : Field). f.slot.ty.0 < bound) fs → AreLow bound (present_fields fs os)
fields_low bound [] os low = tt
fields_low bound (f ∷ fs) [] low = tt
fields_low bound (f ∷ fs) (None ∷ os) low = fields_low bound fs os low.1
fields_low bound (f ∷ fs) (Some v ∷ os) low = (low.0, fields_low bound fs os low.1)

numbered_low : {X : Type 0} (bound : ℕ) (place : X → InSlot) (i : ℕ) (xs : List X) → ((x : X) → IsLowSlot bound (place x)) → AreLow bound (numbered place i xs)
numbered_low bound place i [] low = tt
numbered_low bound place i (x ∷ xs) low = (low x, numbered_low bound place (i + 1) xs low)

named_low : {X : Type 0} (bound : ℕ) (f : X → Named) (xs : List X) → ((x : X) → IsLowSlot bound (f x).1) → AreLow bound (map f xs)
named_low bound f [] low = tt
named_low bound f (x ∷ xs) low = (low x, named_low bound f xs low)

-- and so in what may be there
abbrev AreLowIn : ℕ → Option (List Named) → Type 0
AreLowIn bound None = Unit {0}
AreLowIn bound (Some ps) = AreLow bound ps

list_low : (bound : ℕ) (o : Option TypeDef) (vs : Values) → IsLowIn bound o → AreLowIn bound (parts (list_holder o vs))
list_low bound None vs low = tt
list_low bound (Some (T.List elem at)) vs low = numbered_low bound (λ v. (elem, v)) 0 (values_list vs) (λ v. low.0)
list_low bound (Some d) vs low = tt

map_low : (bound : ℕ) (o : Option TypeDef) (ps : Pairs) → IsLowIn bound o → AreLowIn bound (parts (map_holder o ps))
map_low bound None ps low = tt
map_low bound (Some (T.Map key key_at slot at form)) ps low = named_low bound (λ p. (D.text p.0, (slot, p.1))) (pairs_list ps) (λ p. low.1.0)
map_low bound (Some d) ps low = tt

struct_low : (bound : ℕ) (o : Option TypeDef) (os : Optionals) → IsLowIn bound o → AreLowIn bound (parts (struct_holder o os))
struct_low bound None os low = tt
struct_low bound (Some (T.Struct s)) os low = fields_low bound s.fields (optionals_list os) (low_parts bound (λ (f : Field). f.slot.ty.0) s.fields low)
struct_low bound (Some d) os low = tt

union_low : (bound : ℕ) (o : Option TypeDef) (n : ℕ) (v : Value) → AreLowIn bound (parts (union_holder o n v))
union_low bound None n v = tt
union_low bound (Some (T.Union u)) n v = tt
union_low bound (Some d) n v = tt

any_low : (bound : ℕ) (d : Data) → 0 < bound → AreLowIn bound (parts (any_holder d))
any_low bound (D.list ds) some = numbered_low bound (λ d. (anything, of_any d)) 0 (D.items_list ds) (λ d. some)
any_low bound (D.map ms) some = named_low bound (λ m. (D.text m.0, (anything, of_any m.1))) (D.members_list ms) (λ m. some)
any_low bound d some = tt

module _ (bound : ℕ) (others rows : List Row) (alike : AreAlike bound others rows) where
  parts_low : (s : Slot) (v : Value) → s.ty.0 < bound → AreLowIn bound (parts (holder_of rows s v))
  parts_low s (V.list vs) low = list_low bound (form_of rows s) vs (low_form bound others rows alike s low)
  parts_low s (V.map ps) low = map_low bound (form_of rows s) ps (low_form bound others rows alike s low)
  parts_low s (V.struct os) low = struct_low bound (form_of rows s) os (low_form bound others rows alike s low)
  parts_low s (V.union n v) low = union_low bound (form_of rows s) n v
  parts_low s (V.any d) low = any_low bound d (omega (arith, low))
  parts_low s v low = tt

  -- ---- the list

  pairs_same : (ps : List Named) → AreLow bound ps → map (pair_of (λ q. shown others q.0 q.1)) ps ≡ map (pair_of (λ q. shown rows q.0 q.1)) ps
  pairs_same [] low = refl
  pairs_same (p ∷ ps) low = ap₂ (λ d ds. D.list (items_of (p.0 ∷ d ∷ [])) ∷ ds) (shown_same bound others rows alike p.1.0 p.1.1 low.0) (pairs_same ps low.1)

  lists_same : (o : Option (List Named)) → AreLowIn bound o
      → option_map (λ ps. D.list (items_of (map (pair_of (λ q. shown others q.0 q.1)) ps))) o ≡ option_map (λ ps. D.list (items_of (map (pair_of (λ q. shown rows q.0 q.1)) ps))) o
  lists_same None low = refl
  lists_same (Some ps) low = ap (λ ds. Some (D.list (items_of ds))) (pairs_same ps low)

  pub walked_same : (q : InSlot) → IsLowSlot bound q → walked (λ q. shown others q.0 q.1) (seen others q) ≡ walked (λ q. shown rows q.0 q.1) (seen rows q)
  walked_same q low = ap (walked (λ q. shown others q.0 q.1)) (holder_same bound others rows alike q.0 q.1 low) ∙ lists_same (parts (seen rows q)) (parts_low q.0 q.1 low)

module _ (h : List ℕ → List ℕ) (rows : List Row) (n : TypeNo) (table : IsTable rows) (low : n.0 < length rows) (tests others : Tests) (name source : List ℕ) where
  alike : AreAlike (length rows) (named_rows rows n) rows
  alike = alike_longer rows table n

  told_same : (tell : Tell) (o : Option InSlot) → ((q : InSlot) → o ≡ Some q → IsLowSlot (length rows) q) → told_of (on_struct h rows others n) tell o ≡ told_of (under_name h rows tests n name source) tell o
  told_same presence o lows = refl
  told_same shown_form None lows = refl
  told_same shown_form (Some q) lows = ap Some (shown_same (length rows) (named_rows rows n) rows alike q.0 q.1 (lows q refl))
  told_same representation None lows = refl
  told_same representation (Some q) lows = tree_same (length rows) (named_rows rows n) rows alike (whole h) q.0 q.1 (lows q refl)
  told_same count None lows = refl
  told_same count (Some q) lows = ap counted (holder_same (length rows) (named_rows rows n) rows alike q.0 q.1 (lows q refl))
  told_same list_of_parts None lows = refl
  told_same list_of_parts (Some q) lows = walked_same (length rows) (named_rows rows n) rows alike q (lows q refl)

pub reads_alike : ReadsAreAlike
reads_alike h rows n table low tests others name source tell path v =
    ap (λ o. told (told_of (on_struct h rows others n) tell o)) (paths_lead rows n table low name source v path)
    ∙ ap told (told_same h rows n table low tests others name source tell (at rows (plainly n, v) path)
    (λ q e. at_low (length rows) (named_rows rows n) rows (alike_longer rows table n) (plainly n, v) path q low e))

id_same : (name source : List ℕ) (over : Data → Data) (o : Option Data) → ((d : Data) → root_id bare (over d) ≡ root_id (named name source) d)
    → option_map_or (root_id bare) (option_map over o) [] ≡ option_map_or (root_id (named name source)) o []
id_same name source over None same = refl
id_same name source over (Some d) same = same d

pub roots_told : RootsAreTold
roots_told h rows n table low tests others name source v =
    ap (λ i. R.Root (record { 0 = i }))
    (ap (λ o. option_map_or (root_id bare) o []) (root_tree h rows n table low name source v)
    ∙ id_same name source (λ d. named_data name (id_of (schema_block source)) d) (represented (whole h) rows (plainly n) v) (λ d. refl))
