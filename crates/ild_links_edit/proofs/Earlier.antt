-- Replies from an earlier moment on, from which there were gets alone; and where a value is held later.
use Rattle.std.proofs.Common.{◌≡◌, ◌≢◌, ◌≤◌, inl, inr, ⊎_elim, ℕ, ◌+◌, false, List, [], Option, Some, None, Result, Ok, Err, sym, ap, ◌∙◌, subst, arith}
use Rattle.std.specs.Prelude.{Contains}
use Rattle.std.proofs.lemmas.Option.{none-some, same_Some}
use Rattle.ild_data.proofs.Options.{some_there}
use Rattle.ild_data.specs.Spell.{id_of, spell}
use Rattle.ild_data.specs.declared.id.BlockId.{BlockId}
use Rattle.ild_edges.proofs.Later.{Later-trans}
use Rattle.ild_edges.specs.Count.{Rose}
use Rattle.ild_edges.specs.Gained.{CameFrom, CameWhole}
use Rattle.ild_edges.specs.Store.{Keeps, Later, Moment, block_at}
use Rattle.ild_edges.specs.Told.{BothTold}
use Rattle.ild_links.proofs.Linking.{after, stands_keeps}
use Rattle.ild_links.specs.Trees.{Tree}
use Rattle.ild_path_edits.specs.Judged.{Tests}
use Rattle.ild_run_links.proofs.Standing.{stands_for, stands_under}
use Rattle.ild_run_links.specs.Trees.{Setting as Reading, Storable, trees}
use Rattle.ild_run_standing.specs.Laws.{HeldAreStanding, StandingAreAt}
use Rattle.ild_run_standing.specs.Standing.{IsHeldAt}
use Rattle.ild_schema.specs.Value.{Value}
use Rattle.ild_schema.specs.declared.number.TypeNo.{TypeNo}
use Rattle.ild_schema.specs.declared.row.Row.{Row}
use Rattle.ild_script.specs.declared.reply.No.{No}
use Rattle.ild_script.specs.declared.reply.No.TheVariants as N
use Rattle.ild_script.specs.declared.reply.Reply.{Reply}
use Rattle.ild_script.specs.declared.reply.Reply.TheVariants as R
use Rattle.ild_script_meaning.specs.Lines.{Setting, typed_lines}
use Rattle.ild_script_session.specs.Session.{Due, resting}
use Rattle.ild_script_session.specs.Step.{Carries, HasCause, IsExcused, Replies}
use Rattle.ild_typed.specs.Stands.{IsFrame, Stands, bare}
use Rattle.ild_view_doc.specs.Docs.{block_in, table_in, type_in}
use Rattle.ild_view_doc.specs.declared.doc.Doc.{Doc}

-- ---- answers

abbrev pub refusal_in : {A : Type 0} → Result A No → No
refusal_in (Ok a) = N.Line
refusal_in (Err refusal) = refusal

abbrev pub told_refusal : Option Reply → No
told_refusal (Some (R.No refusal)) = refusal
told_refusal (Some (R.Ok text)) = N.Line
told_refusal (Some (R.Root id)) = N.Line
told_refusal None = N.Line

abbrev pub root_of : Result BlockId No → List ℕ
root_of (Ok root) = root.0
root_of (Err refusal) = []

abbrev pub told_root : Option Reply → List ℕ
told_root (Some (R.Root id)) = id.0
told_root (Some (R.Ok text)) = []
told_root (Some (R.No refusal)) = []
told_root None = []

-- ---- causes

pub cause_on : (m k n : Moment) (few many : List (List ℕ)) → Later m k → k.blocks ≢ None → ((b : List ℕ) → Contains few b → Contains many b) → (r : No) → HasCause k few r n → HasCause m many r n
cause_on m k n few many later told sub N.Line c = c
cause_on m k n few many later told sub N.Path c = c
cause_on m k n few many later told sub N.Json c = c
cause_on m k n few many later told sub N.Mismatch c = c
cause_on m k n few many later told sub N.Delimiter c = c
cause_on m k n few many later told sub N.Hole c = c
cause_on m k n few many later told sub N.Depth c = c
cause_on m k n few many later told sub N.Exhausted c = c
cause_on m k n few many later told sub N.Size c = c
cause_on m k n few many later told sub N.Reserved c = c
cause_on m k n few many later told sub N.Block c = absurd (told c.untold)
cause_on m k n few many later told sub N.Store c = let up = later.faults in let rose : Rose k.faults n.faults = c in omega (arith, up, rose)
cause_on m k n few many later told sub N.Clash c = record { kept = c.kept; new = c.new; held = c.held; among = sub c.new c.among; collide = c.collide }
cause_on m k n few many later told sub N.Memory c = tt
cause_on m k n few many later told sub N.Batch c = c

pub excused_on : (m k n : Moment) (few many : List (List ℕ)) → ((r : No) → HasCause k few r n → HasCause m many r n) → (reply : Option Reply) → IsExcused k few reply n n → IsExcused m many reply n n
excused_on m k n few many f None x = absurd x
excused_on m k n few many f (Some (R.Ok text)) x = absurd x
excused_on m k n few many f (Some (R.Root id)) x = absurd x
excused_on m k n few many f (Some (R.No r)) (inl c) = inl (f r c)
excused_on m k n few many f (Some (R.No r)) (inr c) = inr (f r c)

-- ---- replies

-- by so many gets from m until k, and no more than g with those that the line is due
pub replies_earlier : (w : Setting) (m k n : Moment) (v next : Value) (d : Due Value) (reply : Option Reply) (more g : ℕ) → Later m k → k.blocks ≡ m.blocks → k.blocks ≢ None → k.gets ≤ m.gets + more → k.puts ≤ m.puts → more + d.gets ≤ g
    → Carries (typed_lines w) k (resting v) → Replies (typed_lines w) k (resting v) d reply n (resting next) → Replies (typed_lines w) m (resting v) (record d { gets = g }) reply n (resting next)
replies_earlier w m k n v next d reply more g later same told few still le carries r = record {
  answered = ⊎_elim (λ due. inl due) (λ ex. inr (excused_on m k n d.adds d.adds (cause_on m k n d.adds d.adds later told (λ b here. here)) reply ex.0, ex.1)) r.answered;
  later = Later-trans m k n later r.later;
  carries = λ c. r.carries carries;
  stored = record {
    adds = subst (λ o. BothTold o n.blocks (λ was now. CameFrom d.adds was now)) same r.stored.adds;
    whole = subst (λ o. BothTold o n.blocks (λ was now. CameWhole d.children was now)) same r.stored.whole;
  };
  still = λ none. r.still none ∙ same;
  stays = tt;
  gets = let own = r.gets in omega (arith, own, few, le);
  puts = let own = r.puts in omega (arith, own, still);
  owed = omega arith;
}

-- ---- what is held

pub bare_is_frame : IsFrame bare
bare_is_frame = record { less = omega arith; apart = λ c d same. same; fits = λ d fits. fits; blocks = tt }

pub told_not : (o : Option (List (List ℕ))) (held : List (List ℕ)) → o ≡ Some held → o ≢ None
told_not o held is none = absurd (none-some held (sym none ∙ is))

-- a document's block is held, where its value is
pub block_held : HeldAreStanding → (d : Doc) (tests : Tests) (m : Moment) (held : List (List ℕ)) (v : Value) → m.blocks ≡ Some held → IsHeldAt id_of d tests m v → block_at held (id_of (block_in d)) ≡ Some (block_in d)
block_held standing d tests m held v told x =
    let st = standing id_of d tests m held v told x in
    let one : st.tree ≡ x.at.tree = same_Some st.tree x.at.tree (sym st.storable.tree ∙ x.at.storable.tree) in
    let same : spell st.tree ≡ block_in d = ap spell one ∙ sym x.at.block in
    subst (λ (b : List ℕ). block_at held (id_of b) ≡ Some b) same st.all.0

-- what stands stays
pub stands_later : (rows : List Row) (ty : TypeNo) (id : List ℕ) (was now : List (List ℕ)) (v : Value) → Keeps was now → Stands bare (block_at was) id_of rows ty id v → Stands bare (block_at now) id_of rows ty id v
stands_later rows ty id was now v keeps st =
    let r : Reading = record { hash = id_of; rows = rows; ty = ty; id = id } in
    let t : Tree = record { first = false; ty = ty; id = id } in
    stands_under r now t v (stands_keeps (Storable r) (trees r) was now t v keeps (stands_for r was t v st))

pub held_later : StandingAreAt → HeldAreStanding → (d : Doc) (tests : Tests) (m n : Moment) (v : Value) → Later m n → IsHeldAt id_of d tests m v → IsHeldAt id_of d tests n v
held_later at standing d tests m n v later x =
    let told = some_there m.blocks x.at.told in
    let a = after m n told.0 later told.1 in
    at id_of d tests n a.now v a.told (a.keeps (id_of (block_in d)) (block_in d) (block_held standing d tests m told.0 v told.1 x))
    (stands_later (table_in d) (type_in d) (id_of (block_in d)) told.0 a.now v a.keeps (standing id_of d tests m told.0 v told.1 x))
