-- One layer of a value with blank data for its parts.
use Rattle.std.proofs.Common.{◌≡◌, ℕ, Bool, true, false, cond, pos, codes, List, [], ◌∷◌, ◌++◌, map, Option, Some, None, option_map, is_none, refl, sym, ap, ◌∙◌}
use Rattle.std.specs.Prelude.{option_and_then, slice_get}
use Rattle.std.proofs.lemmas.Option.{same_Some, none-some}
use Rattle.ild_data.specs.Data as T
use Rattle.ild_data.specs.Data.{Data}
use Rattle.ild_data.specs.Key.{put, value_at, same_text}
use Rattle.ild_data.specs.Trie.{trie}
use Rattle.ild_data.specs.declared.hamt_shape.HamtShape.{HamtShape}
use Rattle.ild_data_alike.proofs.Tries.{tries_alike}
use Rattle.ild_data_alike.specs.Blank.{blank, blank_link, blank_entries}
use Rattle.ild_schema.specs.DataKinds.{same_kind}
use Rattle.ild_data.specs.Hex.{bytes_of_hex}
use Rattle.ild_schema.specs.Marks.{mark_kind, mark_text, member_integer}
use Rattle.ild_schema.specs.declared.def.EnumDef.{EnumDef}
use Rattle.ild_schema.specs.declared.def.EnumForm.{EnumForm}
use Rattle.ild_schema.specs.declared.def.EnumForm.TheVariants as E
use Rattle.ild_schema.specs.declared.def.EnumMember.{EnumMember}
use Rattle.ild_schema.specs.declared.def.KindWord.{KindWord}
use Rattle.ild_schema.specs.declared.def.MapForm.TheVariants as MF
use Rattle.ild_schema.specs.declared.def.Member.{Member}
use Rattle.ild_schema.specs.declared.def.TypeDef.{TypeDef}
use Rattle.ild_schema.specs.declared.def.TypeDef.TheVariants as D
use Rattle.ild_schema.specs.declared.def.UnionForm.{UnionForm}
use Rattle.ild_schema.specs.declared.def.UnionForm.TheVariants as UF
use Rattle.ild_schema.specs.declared.def.UnitForm.{UnitForm}
use Rattle.ild_schema.specs.declared.def.UnitForm.TheVariants as U
use Rattle.ild_typed.specs.Composed.{composed, any_data, unit_data, enum_form, inlined, marked_form, member_form, struct_form, union_form}
use Rattle.ild_typed.specs.Hamt.{root_map, whole}
use Rattle.ild_typed.specs.Kinds.{kind_word_of}
use Rattle.ild_typed.specs.Layer as L
use Rattle.ild_typed.specs.Layer.{Layer, as_boolean, as_integer, as_text, as_bytes, as_link, as_any, as_unit, as_enum, as_list, as_map, as_struct, as_union}
use Rattle.ild_typed.specs.Strings.{text_in, bytes_in, members_in, map_data, listpairs, stringpairs}
use Rattle.ild_typed_alike.proofs.Fields.{blank_options, blank_struct, over, chain, when}
use Rattle.ild_typed_alike.proofs.Texts.{blank_list, blank_listpairs, blank_map, blank_put, blank_stringpairs, bytes_of, kind_of, members_of, text_of}

-- ---- layers

abbrev pub blank_layer : Layer Data → Layer Data
blank_layer (L.boolean b) = L.boolean b
blank_layer (L.integer n) = L.integer n
blank_layer (L.text s) = L.text s
blank_layer (L.bytes s) = L.bytes s
blank_layer (L.link s) = L.link (blank_link s)
blank_layer (L.any d) = L.any (blank d)
blank_layer L.unit = L.unit
blank_layer (L.enum n) = L.enum n
blank_layer (L.list ds) = L.list (map blank ds)
blank_layer (L.map es) = L.map (blank_entries es)
blank_layer (L.struct os) = L.struct (blank_options os)
blank_layer (L.union n d) = L.union n (blank d)
blank_layer (L.hamt d) = L.hamt (blank d)

-- data in their place among others
abbrev blank_second : ℕ × Data → ℕ × Data
blank_second p = (p.0, blank p.1)

-- ---- unions

value_found : (k : List ℕ) (es : List (List ℕ × Data)) → is_none (value_at k (blank_entries es)) ≡ is_none (value_at k es)
value_found k [] = refl
value_found k (e ∷ es) = by (same_text k e.0) (value_found k es) where
  by : (b : Bool) → is_none (value_at k (blank_entries es)) ≡ is_none (value_at k es)
      → is_none (cond b (Some (blank e.1)) (value_at k (blank_entries es))) ≡ is_none (cond b (Some e.1) (value_at k es))
  by true rest = refl
  by false rest = rest

blank_inlined : (key name : List ℕ) (es : List (List ℕ × Data)) → option_map blank (inlined key name es) ≡ inlined key name (blank_entries es)
blank_inlined key name es =
    when blank (is_none (value_at key es)) (Some (map_data (put key (T.text name) es)))
    ∙ ap (λ d. cond (is_none (value_at key es)) (Some d) None) (blank_map (put key (T.text name) es) ∙ ap map_data (blank_put key (T.text name) es))
    ∙ ap (λ b. cond b (Some (map_data (put key (T.text name) (blank_entries es)))) None) (sym (value_found key es))

-- what is made of a text or of bytes is blank
made_blank : {A : Type 0} (f : A → Data) → ((a : A) → blank (f a) ≡ f a) → (o : Option A) → option_map blank (option_map f o) ≡ option_map f o
made_blank f same None = refl
made_blank f same (Some a) = ap Some (same a)

bytes_made : (o : Option (List ℕ)) (q : Option (List ℕ)) → option_map blank (option_and_then (λ front. option_map (λ s. T.bytes (front ++ s)) q) o) ≡ option_and_then (λ front. option_map (λ s. T.bytes (front ++ s)) q) o
bytes_made None q = refl
bytes_made (Some front) q = made_blank (λ s. T.bytes (front ++ s)) (λ s. refl) q

blank_marked : (form : UnionForm) (d : Data) (name : List ℕ) → option_map blank (marked_form form d name) ≡ marked_form form (blank d) name
blank_marked UF.Keyed d name = refl
blank_marked UF.Kinded d name = refl
blank_marked UF.StringPrefix d name = made_blank (λ s. T.text (name ++ s)) (λ s. refl) (text_in d) ∙ ap (option_map (λ s. T.text (name ++ s))) (sym (text_of d))
blank_marked UF.BytesPrefix d name =
    bytes_made (bytes_of_hex name) (bytes_in d) ∙ ap (λ q. option_and_then (λ front. option_map (λ s. T.bytes (front ++ s)) q) (bytes_of_hex name)) (sym (bytes_of d))
blank_marked (UF.Envelope key content) d name = ap Some (blank_map (put key (T.text name) ((content, d) ∷ [])) ∙ ap map_data (blank_put key (T.text name) ((content, d) ∷ [])))
blank_marked (UF.Inline key) d name = chain (inlined key name) (inlined key name) blank_entries blank (members_in d) (blank_inlined key name) ∙ ap (option_and_then (inlined key name)) (sym (members_of d))

kinded_by : (d : Data) (o : Option KindWord) → option_map blank (option_and_then (λ k. cond (same_kind k (kind_word_of d)) (Some d) None) o) ≡ option_and_then (λ k. cond (same_kind k (kind_word_of (blank d))) (Some (blank d)) None) o
kinded_by d None = refl
kinded_by d (Some k) = when blank (same_kind k (kind_word_of d)) (Some d) ∙ ap (λ w. cond (same_kind k w) (Some (blank d)) None) (sym (kind_of d))

marked_by : (form : UnionForm) (d : Data) (o : Option (List ℕ)) → option_map blank (option_and_then (marked_form form d) o) ≡ option_and_then (marked_form form (blank d)) o
marked_by form d None = refl
marked_by form d (Some name) = blank_marked form d name

blank_member : (form : UnionForm) (d : Data) (m : Member) → option_map blank (member_form form d m) ≡ member_form form (blank d) m
blank_member UF.Keyed d m = marked_by UF.Keyed d (mark_text m.mark)
blank_member UF.Kinded d m = kinded_by d (mark_kind m.mark)
blank_member UF.StringPrefix d m = marked_by UF.StringPrefix d (mark_text m.mark)
blank_member UF.BytesPrefix d m = marked_by UF.BytesPrefix d (mark_text m.mark)
blank_member (UF.Envelope key content) d m = marked_by (UF.Envelope key content) d (mark_text m.mark)
blank_member (UF.Inline key) d m = marked_by (UF.Inline key) d (mark_text m.mark)

member_by : (form : UnionForm) (d : Data) (o : Option Member) → option_map blank (option_and_then (member_form form d) o) ≡ option_and_then (member_form form (blank d)) o
member_by form d None = refl
member_by form d (Some m) = blank_member form d m

blank_union : (form : UnionForm) (ms : List Member) (p : ℕ × Data) → option_map blank (union_form form ms p) ≡ union_form form ms (blank_second p)
blank_union form ms p = member_by form p.1 (slice_get ms p.0)

-- ---- a layer

blank_any : (d : Data) → option_map blank (any_data d) ≡ any_data (blank d)
blank_any T.null = refl
blank_any (T.boolean b) = refl
blank_any (T.integer n) = refl
blank_any (T.text s) = refl
blank_any (T.bytes s) = refl
blank_any (T.list ds) = refl
blank_any (T.map ms) = refl
blank_any (T.link s) = refl

list_of : (l : Layer Data) → as_list (blank_layer l) ≡ option_map (map blank) (as_list l)
list_of (L.boolean b) = refl
list_of (L.integer n) = refl
list_of (L.text s) = refl
list_of (L.bytes s) = refl
list_of (L.link s) = refl
list_of (L.any d) = refl
list_of L.unit = refl
list_of (L.enum n) = refl
list_of (L.list ds) = refl
list_of (L.map es) = refl
list_of (L.struct os) = refl
list_of (L.union n d) = refl
list_of (L.hamt d) = refl

map_of : (l : Layer Data) → as_map (blank_layer l) ≡ option_map blank_entries (as_map l)
map_of (L.boolean b) = refl
map_of (L.integer n) = refl
map_of (L.text s) = refl
map_of (L.bytes s) = refl
map_of (L.link s) = refl
map_of (L.any d) = refl
map_of L.unit = refl
map_of (L.enum n) = refl
map_of (L.list ds) = refl
map_of (L.map es) = refl
map_of (L.struct os) = refl
map_of (L.union n d) = refl
map_of (L.hamt d) = refl

struct_of : (l : Layer Data) → as_struct (blank_layer l) ≡ option_map blank_options (as_struct l)
struct_of (L.boolean b) = refl
struct_of (L.integer n) = refl
struct_of (L.text s) = refl
struct_of (L.bytes s) = refl
struct_of (L.link s) = refl
struct_of (L.any d) = refl
struct_of L.unit = refl
struct_of (L.enum n) = refl
struct_of (L.list ds) = refl
struct_of (L.map es) = refl
struct_of (L.struct os) = refl
struct_of (L.union n d) = refl
struct_of (L.hamt d) = refl

union_of : (l : Layer Data) → as_union (blank_layer l) ≡ option_map blank_second (as_union l)
union_of (L.boolean b) = refl
union_of (L.integer n) = refl
union_of (L.text s) = refl
union_of (L.bytes s) = refl
union_of (L.link s) = refl
union_of (L.any d) = refl
union_of L.unit = refl
union_of (L.enum n) = refl
union_of (L.list ds) = refl
union_of (L.map es) = refl
union_of (L.struct os) = refl
union_of (L.union n d) = refl
union_of (L.hamt d) = refl

any_of : (l : Layer Data) → as_any (blank_layer l) ≡ option_map blank (as_any l)
any_of (L.boolean b) = refl
any_of (L.integer n) = refl
any_of (L.text s) = refl
any_of (L.bytes s) = refl
any_of (L.link s) = refl
any_of (L.any d) = refl
any_of L.unit = refl
any_of (L.enum n) = refl
any_of (L.list ds) = refl
any_of (L.map es) = refl
any_of (L.struct os) = refl
any_of (L.union n d) = refl
any_of (L.hamt d) = refl

link_of : (l : Layer Data) → as_link (blank_layer l) ≡ option_map blank_link (as_link l)
link_of (L.boolean b) = refl
link_of (L.integer n) = refl
link_of (L.text s) = refl
link_of (L.bytes s) = refl
link_of (L.link s) = refl
link_of (L.any d) = refl
link_of L.unit = refl
link_of (L.enum n) = refl
link_of (L.list ds) = refl
link_of (L.map es) = refl
link_of (L.struct os) = refl
link_of (L.union n d) = refl
link_of (L.hamt d) = refl

-- what a layer shows that has no data for parts, where blanking keeps it
pub record IsPlain (l : Layer Data) : Type 0 where
  pub boolean : as_boolean (blank_layer l) ≡ as_boolean l
  pub integer : as_integer (blank_layer l) ≡ as_integer l
  pub text : as_text (blank_layer l) ≡ as_text l
  pub bytes : as_bytes (blank_layer l) ≡ as_bytes l
  pub unit : as_unit (blank_layer l) ≡ as_unit l
  pub enum : as_enum (blank_layer l) ≡ as_enum l

plain_of : (l : Layer Data) → IsPlain l
plain_of (L.boolean b) = record { boolean = refl; integer = refl; text = refl; bytes = refl; unit = refl; enum = refl }
plain_of (L.integer n) = record { boolean = refl; integer = refl; text = refl; bytes = refl; unit = refl; enum = refl }
plain_of (L.text s) = record { boolean = refl; integer = refl; text = refl; bytes = refl; unit = refl; enum = refl }
plain_of (L.bytes s) = record { boolean = refl; integer = refl; text = refl; bytes = refl; unit = refl; enum = refl }
plain_of (L.link s) = record { boolean = refl; integer = refl; text = refl; bytes = refl; unit = refl; enum = refl }
plain_of (L.any d) = record { boolean = refl; integer = refl; text = refl; bytes = refl; unit = refl; enum = refl }
plain_of L.unit = record { boolean = refl; integer = refl; text = refl; bytes = refl; unit = refl; enum = refl }
plain_of (L.enum n) = record { boolean = refl; integer = refl; text = refl; bytes = refl; unit = refl; enum = refl }
plain_of (L.list ds) = record { boolean = refl; integer = refl; text = refl; bytes = refl; unit = refl; enum = refl }
plain_of (L.map es) = record { boolean = refl; integer = refl; text = refl; bytes = refl; unit = refl; enum = refl }
plain_of (L.struct os) = record { boolean = refl; integer = refl; text = refl; bytes = refl; unit = refl; enum = refl }
plain_of (L.union n d) = record { boolean = refl; integer = refl; text = refl; bytes = refl; unit = refl; enum = refl }
plain_of (L.hamt d) = record { boolean = refl; integer = refl; text = refl; bytes = refl; unit = refl; enum = refl }

enum_by : (form : EnumForm) (m : EnumMember) → option_map blank (enum_form form m) ≡ enum_form form m
enum_by E.Text m = refl
enum_by E.Int m = made_blank T.integer (λ n. refl) (member_integer m)

enum_member : (form : EnumForm) (o : Option EnumMember) → option_map blank (option_and_then (enum_form form) o) ≡ option_and_then (enum_form form) o
enum_member form None = refl
enum_member form (Some m) = enum_by form m

enum_made : (e : EnumDef) (o : Option ℕ) → option_map blank (option_and_then (λ n. option_and_then (enum_form e.form) (slice_get e.members n)) o) ≡ option_and_then (λ n. option_and_then (enum_form e.form) (slice_get e.members n)) o
enum_made e None = refl
enum_made e (Some n) = enum_member e.form (slice_get e.members n)

unit_made : (form : UnitForm) → blank (unit_data form) ≡ unit_data form
unit_made U.Null = refl
unit_made U.True = refl
unit_made U.False = refl
unit_made U.EmptyMap = refl

-- ---- HAMTs

module _ (h : List ℕ → List ℕ) where
  root_alike : (p : HamtShape) (d e : Data) → blank d ≡ blank e → blank (root_map p d) ≡ blank (root_map p e)
  root_alike p d e same =
      blank_map ((codes "hamt", d) ∷ (codes "hashAlg", T.integer (pos 18)) ∷ (codes "bucketSize", T.integer (pos p.bucket)) ∷ [])
      ∙ ap (λ x. map_data ((codes "hamt", x) ∷ (codes "hashAlg", T.integer (pos 18)) ∷ (codes "bucketSize", T.integer (pos p.bucket)) ∷ [])) same
      ∙ sym (blank_map ((codes "hamt", e) ∷ (codes "hashAlg", T.integer (pos 18)) ∷ (codes "bucketSize", T.integer (pos p.bucket)) ∷ []))

  roots_alike : (p : HamtShape) (o q : Option Data) → option_map blank o ≡ option_map blank q → option_map blank (option_map (root_map p) o) ≡ option_map blank (option_map (root_map p) q)
  roots_alike p None None same = refl
  roots_alike p None (Some e) same = absurd (none-some (blank e) same)
  roots_alike p (Some d) None same = absurd (none-some (blank d) (sym same))
  roots_alike p (Some d) (Some e) same = ap Some (root_alike p d e (same_Some (blank d) (blank e) same))

  tries_of : (p : HamtShape) (o q : Option (List (List ℕ × Data))) → option_map blank_entries o ≡ option_map blank_entries q
      → option_map blank (option_and_then (λ es. trie h p es 0) o) ≡ option_map blank (option_and_then (λ es. trie h p es 0) q)
  tries_of p None None same = refl
  tries_of p None (Some fs) same = absurd (none-some (blank_entries fs) same)
  tries_of p (Some es) None same = absurd (none-some (blank_entries es) (sym same))
  tries_of p (Some es) (Some fs) same = (tries_alike h p es fs (same_Some (blank_entries es) (blank_entries fs) same)).root

  -- ---- a layer by its type

  -- of a type that is no HAMT: what is made of the blank layer is blank
  abbrev Keeps : TypeDef → Type 0
  Keeps d = (l : Layer Data) → option_map blank (composed (whole h) d l) ≡ composed (whole h) d (blank_layer l)

  -- layers that are alike make alike data
  abbrev pub MakesAlike : TypeDef → Type 0
  MakesAlike d = (l m : Layer Data) → blank_layer l ≡ blank_layer m → option_map blank (composed (whole h) d l) ≡ option_map blank (composed (whole h) d m)

  by_keeping : (d : TypeDef) → Keeps d → MakesAlike d
  by_keeping d keeps l m same = keeps l ∙ ap (composed (whole h) d) same ∙ sym (keeps m)

  pub makes_alike : (d : TypeDef) → MakesAlike d
  makes_alike D.Bool = by_keeping D.Bool (λ l. made_blank T.boolean (λ b. refl) (as_boolean l) ∙ ap (option_map T.boolean) (sym (plain_of l).boolean))
  makes_alike D.Text = by_keeping D.Text (λ l. made_blank T.text (λ b. refl) (as_text l) ∙ ap (option_map T.text) (sym (plain_of l).text))
  makes_alike D.Bytes = by_keeping D.Bytes (λ l. made_blank T.bytes (λ b. refl) (as_bytes l) ∙ ap (option_map T.bytes) (sym (plain_of l).bytes))
  makes_alike D.Int = by_keeping D.Int (λ l. made_blank T.integer (λ b. refl) (as_integer l) ∙ ap (option_map T.integer) (sym (plain_of l).integer))
  makes_alike D.Any = by_keeping D.Any (λ l. chain any_data any_data blank blank (as_any l) blank_any ∙ ap (option_and_then any_data) (sym (any_of l)))
  makes_alike (D.Link target) = by_keeping (D.Link target) (λ l. over T.link T.link blank_link blank (as_link l) (λ s. refl) ∙ ap (option_map T.link) (sym (link_of l)))
  makes_alike (D.Unit form) = by_keeping (D.Unit form) (λ l. made_blank (λ u. unit_data form) (λ u. unit_made form) (as_unit l) ∙ ap (option_map (λ u. unit_data form)) (sym (plain_of l).unit))
  makes_alike (D.List elem place) =
      by_keeping (D.List elem place) (λ l. over (λ (ds : List Data). T.list (T.items_of ds)) (λ (ds : List Data). T.list (T.items_of ds)) (map blank) blank (as_list l) blank_list ∙ ap (option_map (λ (ds : List Data). T.list (T.items_of ds))) (sym (list_of l)))
  makes_alike (D.Map key key_place value place MF.Map) = by_keeping (D.Map key key_place value place MF.Map) (λ l. over map_data map_data blank_entries blank (as_map l) blank_map ∙ ap (option_map map_data) (sym (map_of l)))
  makes_alike (D.Map key key_place value place MF.ListPairs) =
      by_keeping (D.Map key key_place value place MF.ListPairs) (λ l. over listpairs listpairs blank_entries blank (as_map l) blank_listpairs ∙ ap (option_map listpairs) (sym (map_of l)))
  makes_alike (D.Map key key_place value place (MF.StringPairs inner entry)) =
      by_keeping (D.Map key key_place value place (MF.StringPairs inner entry))
      (λ l. chain (stringpairs inner entry) (stringpairs inner entry) blank_entries blank (as_map l) (blank_stringpairs inner entry) ∙ ap (option_and_then (stringpairs inner entry)) (sym (map_of l)))
  makes_alike (D.Map key key_place value place (MF.Hamt p)) = λ l m same.
      roots_alike p (option_and_then (λ es. trie h p es 0) (as_map l)) (option_and_then (λ es. trie h p es 0) (as_map m)) (tries_of p (as_map l) (as_map m) (sym (map_of l) ∙ ap as_map same ∙ map_of m))
  makes_alike (D.Struct s) =
      by_keeping (D.Struct s) (λ l. chain (struct_form s.form s.fields) (struct_form s.form s.fields) blank_options blank (as_struct l) (blank_struct s.form s.fields) ∙ ap (option_and_then (struct_form s.form s.fields)) (sym (struct_of l)))
  makes_alike (D.Union u) =
      by_keeping (D.Union u) (λ l. chain (union_form u.form u.members) (union_form u.form u.members) blank_second blank (as_union l) (blank_union u.form u.members) ∙ ap (option_and_then (union_form u.form u.members)) (sym (union_of l)))
  makes_alike (D.Enum e) = by_keeping (D.Enum e) (λ l. enum_made e (as_enum l) ∙ ap (option_and_then (λ n. option_and_then (enum_form e.form) (slice_get e.members n))) (sym (plain_of l).enum))
  makes_alike (D.Copy target) = by_keeping (D.Copy target) (λ l. refl)
