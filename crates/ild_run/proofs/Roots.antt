-- Calls that show the value under a root by the root alone, and that they do so where nothing stands in the way.
use Rattle.std.proofs.Common.{◌≡◌, ◌⊎◌, ℕ, List, [], ◌∷◌, Bool, true, false, cond, Option, Some, None, Result, Ok, Err, inl, inr, refl, sym, ap, ◌∙◌, subst, arith}
use Rattle.std.specs.Prelude.{map, option_map, codes, String, string_bytes, nat_eq}
use Rattle.std.specs.declared.alloc.Global.{Global}
use Rattle.std.proofs.lemmas.Bool.{false≢true, and_parts, eqb-true}
use Rattle.std.proofs.lemmas.Option.{same_Some}
use Rattle.ild_data.specs.Key.{same_text}
use Rattle.ild_data_root.specs.Root.{root_of_text}
use Rattle.ild_edges.proofs.Reading.{from_told, reads_none}
use Rattle.ild_edges.specs.Gained.{OnlyReads}
use Rattle.ild_edges.specs.Sink.{Output, Appends, AppendsFront}
use Rattle.ild_edges.specs.Store.{Moment, block_at}
use Rattle.ild_json.specs.Printing.{json_text}
use Rattle.ild_named.proofs.Framing.{named_is_frame}
use Rattle.ild_named.specs.Named.{named}
use Rattle.ild_run_generate.specs.Words.{generation_in, generation_of, numbers_in}
use Rattle.ild_open_parts.specs.declared.fault.OpenFault.TheVariants as O
use Rattle.ild_run_named.proofs.Told.{accepted_too, is_schema, number_is, one_described, one_table, tells}
use Rattle.ild_run_named.specs.Describes.{StandsDescribed}
use Rattle.ild_run_named.specs.Shows.{GetsItsBlocks, HasShown, Shows}
use Rattle.ild_run_show.specs.declared.fault.ShowFault.{ShowFault}
use Rattle.ild_run_show.specs.declared.fault.ShowFault.TheVariants as W
use Rattle.ild_schema.specs.Names.{number_named}
use Rattle.ild_schema.specs.Slots.{plainly}
use Rattle.ild_schema.specs.Value.{Value as Typed}
use Rattle.ild_schema.specs.declared.number.TypeNo.{TypeNo}
use Rattle.ild_schema.specs.declared.row.Row.{Row}
use Rattle.ild_typed.proofs.TreeKept.{one_stands}
use Rattle.ild_typed.specs.Shown.{shown}
use Rattle.ild_typed.specs.Stands.{Stands}
use Rattle.ild_run.specs.Asked.{EndedBy}
use Rattle.ild_run.specs.Complete.{ShownBy}
use Rattle.ild_run.specs.Cut.{CutAs, ToldAs}
use Rattle.ild_run.specs.Ended.{Call, Ended}
use Rattle.ild_run.specs.Fault.{code_of, fault_text}
use Rattle.ild_run.specs.Named.{root_in, root_shown, RevealsRoot, EndsRoot, IsOfWords, RootsNeedNoSchema, IsRevealable, LetsReveal, IsRevealedBy}
use Rattle.ild_run.specs.NamedScript.{EndsScript, IsAnsweredBy, script_in, script_run}
use Rattle.ild_run.specs.Shown.{hash, ShownTold}
use Rattle.ild_run.specs.Words.{checks, job_in, job_of}
use Rattle.ild_run.specs.declared.fault.Fault.TheVariants as F
use Rattle.ild_run.specs.declared.status.Status.{Status}
use Rattle.ild_run.specs.declared.status.Status.TheVariants as S
use Rattle.ild_run.proofs.CompletesNamed.{answered_beneath}
use Rattle.ild_run.proofs.Endings.{ended_unread}
use Rattle.ild_run.proofs.Generating.{cut_memory}

-- ---- the words ask for nothing else

not_check : (verb : List ℕ) → same_text verb (codes "show") ≡ true → same_text verb (codes "check") ≡ false
not_check [] is = absurd (false≢true is)
not_check (x ∷ xs) is =
    let p = and_parts (nat_eq x 115) (same_text xs (codes "how")) is in
    let same : x ≡ 115 = eqb-true x 115 p.0 in
    ap (λ n. same_text (n ∷ xs) (codes "check")) same

no_job : (words : List (List ℕ)) (id : List ℕ) → root_in words ≡ Some id → job_in words ≡ None
no_job [] id e = absurd cc
no_job (a ∷ []) id e = absurd cc
no_job (verb ∷ root ∷ []) id e = by (same_text verb (codes "show")) refl e where
  by : (b : Bool) → same_text verb (codes "show") ≡ b → cond b (root_of_text root) None ≡ Some id → job_in (verb ∷ root ∷ []) ≡ None
  by true is e = ap (λ (b : Bool). cond b (Some (checks root)) None) (not_check verb is)
  by false is e = absurd cc
no_job (a ∷ b ∷ c ∷ words) id e = absurd cc

pub no_job_shown : (words : List (String Global)) (id : List ℕ) → Some id ≡ root_shown words → job_of words ≡ None
no_job_shown words id e = no_job (map string_bytes words) id (sym e)

no_root : (words : List (List ℕ)) (g : ℕ × ℕ) → generation_in words ≡ Some g → root_in words ≡ None
no_root [] g e = absurd cc
no_root (a ∷ []) g e = absurd cc
no_root (a ∷ b ∷ []) g e = absurd cc
no_root (a ∷ b ∷ c ∷ []) g e = refl
no_root (a ∷ b ∷ c ∷ d ∷ words) g e = absurd cc

pub no_root_generated : (words : List (String Global)) (g : ℕ × ℕ) → generation_of words ≡ Some g → None ≡ root_shown words
no_root_generated words g e = sym (no_root (map string_bytes words) g e)

no_job_three : (words : List (List ℕ)) (s : List ℕ × List ℕ) → script_in words ≡ Some s → job_in words ≡ None
no_job_three [] s e = absurd cc
no_job_three (a ∷ []) s e = absurd cc
no_job_three (a ∷ b ∷ []) s e = absurd cc
no_job_three (a ∷ b ∷ c ∷ []) s e = refl
no_job_three (a ∷ b ∷ c ∷ d ∷ words) s e = absurd cc

pub no_job_scripted : (words : List (String Global)) (s : List ℕ × List ℕ) → Some s ≡ script_run words → job_of words ≡ None
no_job_scripted words s e = no_job_three (map string_bytes words) s (sym e)

no_script : (words : List (List ℕ)) (id : List ℕ) → root_in words ≡ Some id → script_in words ≡ None
no_script [] id e = absurd cc
no_script (a ∷ []) id e = absurd cc
no_script (a ∷ b ∷ []) id e = refl
no_script (a ∷ b ∷ c ∷ words) id e = absurd cc

pub no_script_shown : (words : List (String Global)) (id : List ℕ) → Some id ≡ root_shown words → None ≡ script_run words
no_script_shown words id e = sym (no_script (map string_bytes words) id (sym e))

not_run : (verb : List ℕ) → same_text verb (codes "gen") ≡ true → same_text verb (codes "run") ≡ false
not_run [] is = absurd (false≢true is)
not_run (x ∷ xs) is =
    let p = and_parts (nat_eq x 103) (same_text xs (codes "en")) is in
    let same : x ≡ 103 = eqb-true x 103 p.0 in
    ap (λ n. same_text (n ∷ xs) (codes "run")) same

no_script_three : (words : List (List ℕ)) (g : ℕ × ℕ) → generation_in words ≡ Some g → script_in words ≡ None
no_script_three [] g e = refl
no_script_three (a ∷ []) g e = refl
no_script_three (a ∷ b ∷ []) g e = refl
no_script_three (verb ∷ count ∷ seed ∷ []) g e = by (same_text verb (codes "gen")) refl e where
  by : (b : Bool) → same_text verb (codes "gen") ≡ b → cond b (numbers_in count seed) None ≡ Some g → script_in (verb ∷ count ∷ seed ∷ []) ≡ None
  by true is e = ap (λ (b : Bool). cond b (option_map (λ id. (id, seed)) (root_of_text count)) None) (not_run verb is)
  by false is e = absurd cc
no_script_three (a ∷ b ∷ c ∷ d ∷ words) g e = refl

pub no_script_generated : (words : List (String Global)) (g : ℕ × ℕ) → generation_of words ≡ Some g → None ≡ script_run words
no_script_generated words g e = sym (no_script_three (map string_bytes words) g e)

-- ---- one value

module _ (h : List ℕ → List ℕ) (id : List ℕ) (held : List (List ℕ)) (rows others : List Row) (n m : TypeNo) (v w : Typed) (a : StandsDescribed h id held rows n v) (b : StandsDescribed h id held others m w) where
  same_rows : rows ≡ others
  same_rows = one_table b.source rows others (accepted_too h id held rows n v a b.name b.source (tells h id held others m w b)) b.describes.schema

  same_names : a.name ≡ b.name
  same_names = (one_described held id a.name a.source b.name b.source (tells h id held rows n v a) (tells h id held others m w b)).names

  same_sources : a.source ≡ b.source
  same_sources = (one_described held id a.name a.source b.name b.source (tells h id held rows n v a) (tells h id held others m w b)).sources

  same_types : n ≡ m
  same_types =
      let named_so : number_named b.name rows ≡ Some n.0 = subst (λ (s : List ℕ). number_named s rows ≡ Some n.0) same_names a.describes.type in
      let found : number_named b.name others ≡ Some n.0 = subst (λ (r : List Row). number_named b.name r ≡ Some n.0) same_rows named_so in
      number_is n m (same_Some n.0 m.0 (sym found ∙ b.describes.type))

  same_values : v ≡ w
  same_values =
      let Standing : List ℕ → List ℕ → List Row → TypeNo → Type 0 = λ name source r t. Stands (named name source) (block_at held) h r t id v in
      let there : Standing b.name b.source others m
      = subst (λ (t : TypeNo). Standing b.name b.source others t) same_types
      (subst (λ (r : List Row). Standing b.name b.source r n) same_rows
      (subst (λ (s : List ℕ). Standing b.name s rows n) same_sources (subst (λ (s : List ℕ). Standing s a.source rows n) same_names a.is.stands))) in
      one_stands (named b.name b.source) (named_is_frame b.name b.source b.is.naming) (block_at held) h others (is_schema h id held others m w b) m id v w there b.is.stands

  pub one_text : json_text (shown rows (plainly n) v) ≡ json_text (shown others (plainly m) w)
  one_text =
      ap (λ (r : List Row). json_text (shown r (plainly n) v)) same_rows ∙ ap (λ (t : TypeNo). json_text (shown others (plainly t) v)) same_types
      ∙ ap (λ (x : Typed). json_text (shown others (plainly m) x)) same_values

-- ---- where nothing stands in the way

module _ (id : List ℕ) (c : Call) (status : Status) (ends : EndsRoot id c status) (rows : List Row) (n : TypeNo) (v : Typed) (given : IsRevealable id c rows n v) (lets : LetsReveal c) where
  abbrev Plainly : Type 0
  Plainly = (status ≡ S.Memory) ⊎ ShownBy c status (json_text (shown rows (plainly n) v))

  same_json : (json : Option (List ℕ)) → OnlyReads c.before.moment c.after.moment → HasShown hash id c.after.moment json → json ≡ json_text (shown rows (plainly n) v)
  same_json json reads has =
      let there = from_told c.after.moment (λ held. StandsDescribed hash id held has.rows has.type has.value) has.opened given.held (reads.blocks ∙ given.store) in
      sym has.printed ∙ one_text hash id given.held has.rows rows has.type n has.value v there given.stands

  abbrev Wrote : List ℕ → Status → Type 0
  Wrote text due = ((status ≡ due) × Appends c.before.output.written c.after.output.written text) ⊎ (CutAs c.before.output status c.after.output × AppendsFront c.before.output.written c.after.output.written text)

  memory_by : Wrote (fault_text F.Memory) S.Memory → Plainly
  memory_by (inl all) = inl all.0
  memory_by (inr cut) = inl (cut_memory c.before.output c.after.output status lets.sink cut.0)

  plain_by : (result : Result (List ℕ) ShowFault) → Shows hash id c.before.moment result c.after.moment → ShownTold result c.before.output status c.after.output → Plainly
  plain_by (Ok json) has (inl all) = inr (subst (ShownBy c status) (same_json (Some json) has.reads has.answer) all)
  plain_by (Ok json) has (inr cut) = inl (cut_memory c.before.output c.after.output status lets.sink cut.0)
  plain_by (Err W.Reserved) has (inl all) = inr (subst (ShownBy c status) (same_json None has.reads has.answer) all)
  plain_by (Err W.Reserved) has (inr cut) = inl (cut_memory c.before.output c.after.output status lets.sink cut.0)
  plain_by (Err (W.Block at why)) has line = absurd (has.answer.none given.held rows n v given.store given.stands)
  plain_by (Err W.Store) has line = absurd (lets.store has.answer)
  plain_by (Err W.Memory) has line = memory_by line.told

  plain : Plainly
  plain = plain_by ends.reveals.result ends.reveals.shows ends.reveals.told

-- ---- as the words ask

module _ (root : Option (List ℕ)) (id : List ℕ) (c : Call) (status : Status) (is : Some id ≡ root) (same : c.after.supply ≡ c.before.supply)
    (reveals : RevealsRoot id c.before.moment c.before.output status c.after.moment c.after.output) where
  ends : EndsRoot id c status
  ends = record { reveals = reveals; same = same }

  pub root_ended : (script : Option (List ℕ × List ℕ)) → EndedBy None root script c status
  root_ended script = subst (λ (o : Option (List ℕ)). EndedBy None o script c status) is ends

  pub root_revealed : IsRevealedBy root c status
  root_revealed = subst (λ (o : Option (List ℕ)). IsRevealedBy o c status) is (λ rows n v given lets. plain id c status ends rows n v given lets)

pub rootless : (root : Option (List ℕ)) (script : Option (List ℕ × List ℕ)) (c : Call) (status : Status) → None ≡ root → EndedBy None None script c status → EndedBy None root script c status
rootless root script c status is ended = subst (λ (o : Option (List ℕ)). EndedBy None o script c status) is ended

pub script_ended : (script : Option (List ℕ × List ℕ)) (s : List ℕ × List ℕ) (c : Call) (status : Status) → Some s ≡ script → EndsScript s c status → EndedBy None None script c status
script_ended script s c status is ends = subst (λ (o : Option (List ℕ × List ℕ)). EndedBy None None o c status) is ends

pub scriptless : (script : Option (List ℕ × List ℕ)) (c : Call) (status : Status) → None ≡ script → Ended c status → EndedBy None None script c status
scriptless script c status is ended = subst (λ (o : Option (List ℕ × List ℕ)). EndedBy None None o c status) is ended

pub nothing_revealed : (root : Option (List ℕ)) (c : Call) (status : Status) → None ≡ root → IsRevealedBy root c status
nothing_revealed root c status is = subst (λ (o : Option (List ℕ)). IsRevealedBy o c status) is tt

-- ---- memory is wanting to read the root

module _ (c : Call) (status : Status) (inputs : c.after.supply ≡ c.before.supply) (same : c.after.moment ≡ c.before.moment) (told : ToldAs F.Memory c.before.output status c.after.output) where
  few : (id : List ℕ) (m : Moment) → GetsItsBlocks hash id m m
  few id m = λ held rows ty v told st. omega arith

  nothing_shown : (id : List ℕ) (m k : Moment) → k ≡ m → Shows hash id m (Err W.Memory) k
  nothing_shown id m k is = subst (λ (x : Moment). Shows hash id m (Err W.Memory) x) (sym is) (record { answer = tt; reads = reads_none m; gets = few id m })

  unread : (id : List ℕ) → EndsRoot id c status
  unread id = record {
    reveals = record { result = Err W.Memory; shows = nothing_shown id c.before.moment c.after.moment same; told = told; faults = told.faults };
    same = inputs;
  }

  unread_script : (s : List ℕ × List ℕ) → EndsScript s c status
  unread_script s = record {
    table = Err O.Memory;
    behind = c.before.moment;
    names = record { answer = tt; reads = reads_none c.before.moment; gets = omega arith };
    told = (told, same, inputs);
  }

  pub unread_answered : (script : Option (List ℕ × List ℕ)) → IsAnsweredBy script c status
  unread_answered None = tt
  unread_answered (Some s) = answered_beneath s c status (unread_script s)

  pub unread_last : (script : Option (List ℕ × List ℕ)) → EndedBy None None script c status
  unread_last None = ended_unread c status same told
  unread_last (Some s) = unread_script s

  pub unread_ended : (root : Option (List ℕ)) (script : Option (List ℕ × List ℕ)) → EndedBy None root script c status
  unread_ended None script = unread_last script
  unread_ended (Some id) script = unread id

  pub unread_revealed : (root : Option (List ℕ)) → IsRevealedBy root c status
  unread_revealed None = tt
  unread_revealed (Some id) = λ rows n v given lets. plain id c status (unread id) rows n v given lets

-- ---- no words, schema, input or value are at fault

abbrev Blameless : Status → Type 0
Blameless status = IsOfWords status → ⊥

no_cut : (m k : Output) (status : Status) → CutAs m status k → Blameless status
no_cut m k status cut (inl is) = subst (λ (s : Status). CutAs m s k) is cut
no_cut m k status cut (inr (inl is)) = subst (λ (s : Status). CutAs m s k) is cut
no_cut m k status cut (inr (inr (inl is))) = subst (λ (s : Status). CutAs m s k) is cut
no_cut m k status cut (inr (inr (inr is))) = subst (λ (s : Status). CutAs m s k) is cut

-- the number of a status tells it from these
none_of : (status : Status) → nat_eq (code_of status) 2 ≡ false → nat_eq (code_of status) 3 ≡ false → nat_eq (code_of status) 5 ≡ false → nat_eq (code_of status) 9 ≡ false → Blameless status
none_of status a b c d (inl is) = false≢true (sym a ∙ ap (λ (s : Status). nat_eq (code_of s) 2) is)
none_of status a b c d (inr (inl is)) = false≢true (sym b ∙ ap (λ (s : Status). nat_eq (code_of s) 3) is)
none_of status a b c d (inr (inr (inl is))) = false≢true (sym c ∙ ap (λ (s : Status). nat_eq (code_of s) 5) is)
none_of status a b c d (inr (inr (inr is))) = false≢true (sym d ∙ ap (λ (s : Status). nat_eq (code_of s) 9) is)

module _ (m k : Output) (status : Status) where
  told_so : {A B : Type 0} (due : Status) → Blameless due → ((status ≡ due) × A) ⊎ (CutAs m status k × B) → Blameless status
  told_so due none (inl all) = subst Blameless (sym all.0) none
  told_so due none (inr cut) = no_cut m k status cut.0

  shown_so : (result : Result (List ℕ) ShowFault) → ShownTold result m status k → Blameless status
  shown_so (Ok json) told = told_so S.Done (none_of S.Done refl refl refl refl) told
  shown_so (Err W.Reserved) told = told_so S.Refused (none_of S.Refused refl refl refl refl) told
  shown_so (Err (W.Block at why)) told = told_so S.Root (none_of S.Root refl refl refl refl) told.told
  shown_so (Err W.Store) told = told_so S.StoreFault (none_of S.StoreFault refl refl refl refl) told.told
  shown_so (Err W.Memory) told = told_so S.Memory (none_of S.Memory refl refl refl refl) told.told

pub need_no_schema : RootsNeedNoSchema
need_no_schema id c status ends = shown_so c.before.output c.after.output status ends.reveals.result ends.reveals.told
