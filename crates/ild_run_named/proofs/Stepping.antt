-- From what a root tells to its value's text, step by step.
use Rattle.std.proofs.Common.{◌≡◌, ℕ, ◌+◌, ◌≤◌, List, length, Option, Some, None, sym, ◌∙◌, subst, arith, inl, inr}
use Rattle.std.proofs.lemmas.Option.{none-some, same_Some}
use Rattle.std.specs.Prelude.{Result, Ok, Err}
use Rattle.ild_cbor.specs.declared.why.BlockWhy.{BlockWhy}
use Rattle.ild_edges.proofs.Reading.{from_both, from_later, from_told, reads_then}
use Rattle.ild_edges.specs.Gained.{OnlyReads}
use Rattle.ild_edges.specs.Store.{Moment}
use Rattle.ild_json.specs.Printing.{json_text}
use Rattle.ild_named.specs.Named.{named}
use Rattle.ild_open_named.proofs.Naming.{standing_described}
use Rattle.ild_open_named.proofs.Refusing.{not_undescribed}
use Rattle.ild_open_named.specs.Broken.{IsUndescribed}
use Rattle.ild_open_named.specs.Described.{Describes, IsDescribed}
use Rattle.ild_open_named.specs.Opened as W
use Rattle.ild_open_named.specs.Opened.{Opens, StandsInNamed, StandsNamed}
use Rattle.ild_open_named.specs.declared.described.Described.{Described}
use Rattle.ild_open_parts.proofs.Breaking.{rose_later}
use Rattle.ild_open_parts.specs.declared.fault.OpenFault.{OpenFault}
use Rattle.ild_open_parts.specs.declared.fault.OpenFault.TheVariants as O
use Rattle.ild_run_show.specs.declared.fault.ShowFault.{ShowFault}
use Rattle.ild_run_show.specs.declared.fault.ShowFault.TheVariants as F
use Rattle.ild_schema.specs.Names.{number_named}
use Rattle.ild_schema.specs.Slots.{plainly}
use Rattle.ild_schema.specs.Value.{Value}
use Rattle.ild_schema.specs.ValueSeen.{value_of}
use Rattle.ild_schema.specs.declared.number.TypeNo.{TypeNo}
use Rattle.ild_schema.specs.declared.row.Row.{Row}
use Rattle.ild_schema.specs.declared.val.Val.{Val}
use Rattle.ild_typed.specs.Schema.{IsSchema}
use Rattle.ild_typed.specs.Shown.{shown}
use Rattle.ild_view_named.specs.NamedDocs.{block_in}
use Rattle.ild_view_named.specs.declared.doc.NamedDoc.{NamedDoc}
use Rattle.ild_typed.specs.Stands.{blocks_of}
use Rattle.ild_run_named.proofs.Told.{accepted_too, not_flawed, number_is, one_described, one_table, tells}
use Rattle.ild_run_named.specs.Describes.{DescribesType, StandsDescribed}
use Rattle.ild_run_named.specs.Shows.{GetsItsBlocks, HasShown, NoneStands, ShowAnswer, Shows}
use Rattle.ild_run_named.specs.Types.{TypesAs}
use Rattle.ild_run_named.specs.inside.Steps.{IsShown, ValueShows, open_fault}

module _ (h : List ℕ → List ℕ) (id : List ℕ) (m k : Moment) where
  -- ---- no root is described

  undescribed : (before now : ℕ) (at : List ℕ) (why : BlockWhy) → IsUndescribed m.blocks before now id at why → NoneStands h id m
  undescribed before now at why x = λ held rows ty v told st. not_undescribed m.blocks held told id st.name st.source (tells h id held rows ty v st) before now at why x

  few : (n : Moment) → n.gets ≤ m.gets + 2 → GetsItsBlocks h id m n
  few n most = λ held rows ty v told st. omega (arith, most)

  describe_stops : (e : OpenFault) → Describes id m (Err e) k → ShowAnswer h id m (Err (open_fault e)) k
  describe_stops (O.Block at why) x = record { none = undescribed m.lacks k.lacks at.0 why x.answer.1; refused = inl x.answer.1 }
  describe_stops O.Store x = x.answer
  describe_stops O.Memory x = tt

  pub not_described : (e : OpenFault) → Describes id m (Err e) k → Shows h id m (Err (open_fault e)) k
  not_described e x = record { answer = describe_stops e x; reads = x.only; gets = few k x.gets }

  -- ---- no type

  module _ (d : Described) (x : Describes id m (Ok d) k) where
    told_here : (held : List (List ℕ)) → m.blocks ≡ Some held → IsDescribed held id d.type_name d.source
    told_here held told = from_told k (λ held. IsDescribed held id d.type_name d.source) x.answer.described held (x.only.blocks ∙ told)

    type_stops : (e : OpenFault) → TypesAs id d (Err e) → ShowAnswer h id m (Err (open_fault e)) k
    type_stops (O.Block at why) (inl y) = record {
      none = λ held rows ty v told st. not_flawed d.source rows y.fault (accepted_too h id held rows ty v st d.type_name d.source (told_here held told)) y.flaw;
      refused = inr (inl (record { name = d.type_name; source = d.source; tells = x.answer.described; schema = y.schema ∙ x.answer.link; fault = y.fault; flaw = y.flaw; told = y.told }));
    }
    type_stops (O.Block at why) (inr y) = record {
      none = λ held rows ty v told st.
          let is = told_here held told in
          let same : rows ≡ y.rows = one_table d.source rows y.rows (accepted_too h id held rows ty v st d.type_name d.source is) y.accepted in
          let names = (one_described held id st.name st.source d.type_name d.source (tells h id held rows ty v st) is).names in
          let found : number_named d.type_name y.rows ≡ Some ty.0 = subst (λ (r : List Row). number_named d.type_name r ≡ Some ty.0) same (subst (λ (s : List ℕ). number_named s rows ≡ Some ty.0) names st.describes.type) in
          none-some ty.0 (sym y.none ∙ found);
      refused = inr (inr (inl (record { name = d.type_name; source = d.source; tells = x.answer.described; root = y.root; rows = y.rows; accepted = y.accepted; none = y.none; told = y.told })));
    }
    type_stops O.Memory y = tt
    type_stops O.Store y = absurd y

    pub not_typed : (e : OpenFault) → TypesAs id d (Err e) → Shows h id m (Err (open_fault e)) k
    not_typed e y = record { answer = type_stops e y; reads = x.only; gets = few k x.gets }

    -- ---- the value

    module _ (rows : List Row) (ty : TypeNo) (describes : DescribesType d.type_name d.source rows ty) (n : Moment) where
      same_rows : (held : List (List ℕ)) (other : List Row) (kind : TypeNo) (v : Value) → m.blocks ≡ Some held → StandsDescribed h id held other kind v → rows ≡ other
      same_rows held other kind v told st = one_table d.source rows other describes.schema (accepted_too h id held other kind v st d.type_name d.source (told_here held told))

      same_type : (held : List (List ℕ)) (other : List Row) (kind : TypeNo) (v : Value) → m.blocks ≡ Some held → StandsDescribed h id held other kind v → ty ≡ kind
      same_type held other kind v told st =
          let names = (one_described held id st.name st.source d.type_name d.source (tells h id held other kind v st) (told_here held told)).names in
          let found : number_named d.type_name rows ≡ Some kind.0
          = subst (λ (r : List Row). number_named d.type_name r ≡ Some kind.0) (sym (same_rows held other kind v told st)) (subst (λ (s : List ℕ). number_named s other ≡ Some kind.0) names st.describes.type) in
          number_is ty kind (same_Some ty.0 kind.0 (sym describes.type ∙ found))

      -- what is said of the table and the type is said of each that is described there
      carried : (P : List Row → TypeNo → Type 0) (held : List (List ℕ)) (other : List Row) (kind : TypeNo) (v : Value) → m.blocks ≡ Some held → StandsDescribed h id held other kind v → P rows ty → P other kind
      carried P held other kind v told st p = subst (λ (r : List Row). P r kind) (same_rows held other kind v told st) (subst (λ (t : TypeNo). P rows t) (same_type held other kind v told st) p)

      abbrev Bound : List (List ℕ) → List Row → TypeNo → Type 0
      Bound held r t = (name source : List ℕ) (v : Value) (st : StandsNamed h r t id held name source v) → n.gets ≤ k.gets + length (blocks_of (named name source) h r t v st.stands.tree)

      gets_of : {A : Type 0} (Done : A → Type 0) (r : Result A OpenFault) → Opens Done h rows ty id k r n → GetsItsBlocks h id m n
      gets_of Done r z = λ held other kind v told st.
          let bound = carried (Bound held) held other kind v told st (λ name source w s. z.gets held name source w (x.only.blocks ∙ told) s) st.name st.source v st.is in
          let first = x.gets in
          omega (arith, bound, first)

      reads_too : {A : Type 0} (Done : A → Type 0) (r : Result A OpenFault) → Opens Done h rows ty id k r n → OnlyReads m n
      reads_too Done r z = reads_then m k n x.only z.only

      abbrev Nothing : List (List ℕ) → List Row → TypeNo → Type 0
      Nothing held r t = (name source : List ℕ) (v : Value) → StandsNamed h r t id held name source v → ⊥

      -- it is of the type that the root describes
      shown_here : (held : List (List ℕ)) (block : List ℕ) (v : Value) → IsDescribed held id d.type_name d.source → StandsInNamed h rows ty id held block v → StandsDescribed h id held rows ty v
      shown_here held block v is s =
          let schema : IsSchema rows = record { table = describes.table; accepted = describes.schema.accepted } in
          let one = one_described held id d.type_name d.source s.name s.source is (standing_described rows schema h ty id held s.name s.source v s.is) in
          record {
            name = s.name;
            source = s.source;
            describes = subst (λ (t : List ℕ). DescribesType s.name t rows ty) one.sources (subst (λ (a : List ℕ). DescribesType a d.source rows ty) one.names describes);
            is = s.is;
          }

      has_shown : (json : Option (List ℕ)) → OnlyReads k n → IsShown h rows ty id n json → HasShown h id n json
      has_shown json only z = record {
        rows = rows;
        type = ty;
        value = z.value;
        opened = from_both n (λ held. IsDescribed held id d.type_name d.source) (λ held. StandsInNamed h rows ty id held z.block z.value) (λ held. StandsDescribed h id held rows ty z.value)
            (λ held is s. shown_here held z.block z.value is s) (from_later k n (λ held. IsDescribed held id d.type_name d.source) only x.answer.described) z.opened;
        printed = z.printed;
      }

      pub shows : (r : Result (List ℕ) ShowFault) → ValueShows h rows ty id k r n → Shows h id m r n
      shows (Ok json) z = record {
        answer = has_shown (Some json) z.only z.answer;
        reads = reads_too {A = List ℕ} (λ text. IsShown h rows ty id n (Some text)) (Ok json) z;
        gets = gets_of {A = List ℕ} (λ text. IsShown h rows ty id n (Some text)) (Ok json) z;
      }
      shows (Err F.Reserved) z = record {
        answer = has_shown None z.only z.answer;
        reads = reads_too {A = Unit {0}} (λ u. IsShown h rows ty id n None) (Ok tt) z;
        gets = gets_of {A = Unit {0}} (λ u. IsShown h rows ty id n None) (Ok tt) z;
      }
      shows (Err (F.Block at why)) z = record {
        answer = record {
          none = λ held other kind v told st.
              carried (Nothing held) held other kind v told st (λ name source w s. z.answer.0 held name source w (x.only.blocks ∙ told) s) st.name st.source v st.is;
          refused = inr (inr (inr (record { name = d.type_name; source = d.source; tells = from_later k n (λ held. IsDescribed held id d.type_name d.source) z.only x.answer.described; rows = rows; type = ty; describes = describes; moment = k; reads = x.only; refused = z.answer.1 })));
        };
        reads = reads_too {A = Unit {0}} (λ u. ⊥) (Err (O.Block at why)) z;
        gets = gets_of {A = Unit {0}} (λ u. ⊥) (Err (O.Block at why)) z;
      }
      shows (Err F.Store) z = record {
        answer = rose_later m.faults k.faults n.faults x.only.later.faults z.answer;
        reads = reads_too {A = Unit {0}} (λ u. ⊥) (Err O.Store) z;
        gets = gets_of {A = Unit {0}} (λ u. ⊥) (Err O.Store) z;
      }
      shows (Err F.Memory) z = record {
        answer = tt;
        reads = reads_too {A = Unit {0}} (λ u. ⊥) (Err O.Memory) z;
        gets = gets_of {A = Unit {0}} (λ u. ⊥) (Err O.Memory) z;
      }

-- ---- the text of a value that was opened

module _ (h : List ℕ → List ℕ) (rows : List Row) (ty : TypeNo) (id : List ℕ) (m n : Moment) where
  pub value_stops : {A : Type 0} (Done : A → Type 0) (e : OpenFault) → Opens Done h rows ty id m (Err e) n → ValueShows h rows ty id m (Err (open_fault e)) n
  value_stops Done (O.Block at why) x = record { answer = x.answer; only = x.only; gets = x.gets }
  value_stops Done O.Store x = record { answer = x.answer; only = x.only; gets = x.gets }
  value_stops Done O.Memory x = record { answer = tt; only = x.only; gets = x.gets }

  module _ (p : NamedDoc × Val) (x : Opens (W.HasNamedValue h rows ty id n) h rows ty id m (Ok p) n) where
    is_shown : (json : Option (List ℕ)) → json_text (shown rows (plainly ty) (value_of p.1)) ≡ json → IsShown h rows ty id n json
    is_shown json printed = record { value = value_of p.1; block = block_in p.0; opened = x.answer.value; printed = printed }

    pub value_shows : (text : List ℕ) → json_text (shown rows (plainly ty) (value_of p.1)) ≡ Some text → ValueShows h rows ty id m (Ok text) n
    value_shows text printed = record { answer = is_shown (Some text) printed; only = x.only; gets = x.gets }

    pub value_reserved : json_text (shown rows (plainly ty) (value_of p.1)) ≡ None → ValueShows h rows ty id m (Err F.Reserved) n
    value_reserved printed = record { answer = is_shown None printed; only = x.only; gets = x.gets }

    pub value_wanting : ValueShows h rows ty id m (Err F.Memory) n
    value_wanting = record { answer = tt; only = x.only; gets = x.gets }
