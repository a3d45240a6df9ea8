-- The id of a clash is that of a block which collides with one that is held.
use Rattle.std.proofs.Common.{◌≡◌, inl, ℕ, List, [], ◌∷◌, Option, Some, None, refl, sym, ap, subst, ◌∙◌}
use Rattle.std.specs.Prelude.{Result, Err}
use Rattle.ild_build_blocks.specs.Builds.{BuildAnswer, Builds}
use Rattle.ild_build_blocks.specs.declared.fault.BuildFault.{BuildFault}
use Rattle.ild_build_blocks.specs.declared.fault.BuildFault.TheVariants as B
use Rattle.ild_data.specs.Spell.{id_of}
use Rattle.ild_data.specs.declared.id.BlockId.{BlockId}
use Rattle.ild_edges.proofs.Among.{IsIn-contains}
use Rattle.ild_edges.specs.Collide.{Collide}
use Rattle.ild_edges.specs.Gained.{AreHeld, Holds}
use Rattle.ild_edges.specs.Store.{Moment, block_at}
use Rattle.ild_edges.specs.Told.{IfTold}
use Rattle.ild_path.specs.Replaces.{EditCause}
use Rattle.ild_path.specs.declared.fault.EditFault.{EditFault}
use Rattle.ild_path.specs.declared.fault.EditFault.TheVariants as F
use Rattle.ild_path_place.specs.declared.place.Place.{Place}
use Rattle.ild_schema.specs.Value.{Value}
use Rattle.ild_schema.specs.declared.number.Slot.{Slot}
use Rattle.ild_schema.specs.declared.row.Row.{Row}
use Rattle.ild_script.specs.declared.reply.No.{No}
use Rattle.ild_view_doc.specs.declared.doc.Doc.{Doc}
use Rattle.ild_script.specs.declared.reply.No.TheVariants as N
use Rattle.ild_run_edit.specs.inside.Judges.{IsPartRefusal}
use Rattle.ild_run_edit.specs.inside.Moves.{PartAnswer, built_fault, done_fault}
use Rattle.ild_run_edit.specs.Naming.{IsTaken, NamesClash, NotesBuilt, NotesDone}
use Rattle.ild_run_standing.specs.Blame.{HasClash}
use Rattle.ild_run_edit.specs.inside.Roots.{FindFails}
use Rattle.ild_run_edit.proofs.Still.{told_plain}

pub same_refusal : {A : Type 0} (r s : No) → ◌≡◌ {A = Result A No} (Err r) (Err s) → r ≡ s
same_refusal r s e = cc

-- ---- other bytes are held

there_as : (o : Option (List (List ℕ))) (id kept : List ℕ) → id_of kept ≡ id → IfTold o (λ held. block_at held id ≡ Some kept) → IfTold o (AreHeld (kept ∷ []))
there_as None id kept e h = tt
there_as (Some held) id kept e h = (subst (λ (i : List ℕ). block_at held i ≡ Some kept) (sym e) h, tt)

taken : (n : Moment) (id kept new : List ℕ) → id_of new ≡ id → Holds n (kept ∷ []) → Collide kept new → IsTaken n id
taken n id kept new is there c = record { new = new; named = is; hit = record { kept = kept; new = new; held = there; among = IsIn-contains new (new ∷ []) (inl refl); collide = c } }

named : (clash : Option BlockId) (id : BlockId) (m : Moment) → clash ≡ Some id → IsTaken m id.0 → NamesClash clash m
named clash id m e x = subst (λ c. NamesClash c m) (sym e) x

done_of : (m k : Moment) (f : EditFault) (clash : Option BlockId) → EditCause m f k → NotesDone f clash → done_fault f ≡ N.Clash → NamesClash clash k
done_of m k F.Exhausted clash cause notes e = absurd cc
done_of m k F.NoKey clash cause notes e = absurd cc
done_of m k F.Size clash cause notes e = absurd cc
done_of m k F.Store clash cause notes e = absurd cc
done_of m k F.Memory clash cause notes e = absurd cc
done_of m k (F.Clash id kept new) clash cause notes e =
    named clash id k notes.0 (taken k id.0 kept new cause.1 (there_as k.blocks id.0 kept cause.0 cause.3) (record { kept_bytes = notes.1; new_bytes = notes.2; differ = cause.2; one_id = cause.0 ∙ sym cause.1 }))

-- where a block comes to its place
pub done_named : (m k : Moment) (f : EditFault) (clash : Option BlockId) (r : No) → EditCause m f k → NotesDone f clash → r ≡ done_fault f → ◌≡◌ {A = Result (List ℕ) No} (Err r) (Err N.Clash) → NamesClash clash k
done_named m k f clash r cause notes is e = done_of m k f clash cause notes (sym is ∙ same_refusal r N.Clash e)

built_of : (h : List ℕ → List ℕ) (rows : List Row) (slot : Slot) (w : Value) (m k : Moment) (f : BuildFault) (clash : Option BlockId) → BuildAnswer h rows slot w m (Err f) k → NotesBuilt f clash → built_fault f ≡ N.Clash → NamesClash clash k
built_of h rows slot w m k B.Exhausted clash a notes e = absurd cc
built_of h rows slot w m k B.Size clash a notes e = absurd cc
built_of h rows slot w m k B.Store clash a notes e = absurd cc
built_of h rows slot w m k B.Memory clash a notes e = absurd cc
built_of h rows slot w m k (B.Clash id kept new) clash a notes e =
    let x = a.0 in named clash id k notes (taken k id.0 kept new x.named x.held x.collide)

-- where a part is built
pub built_named : (h : List ℕ → List ℕ) (rows : List Row) (slot : Slot) (w : Value) (m k : Moment) (f : BuildFault) (clash : Option BlockId) (r : No) → Builds h rows slot w m (Err f) k → NotesBuilt f clash → r ≡ built_fault f
    → ◌≡◌ {A = Result (List ℕ) No} (Err r) (Err N.Clash) → NamesClash clash k
built_named h rows slot w m k f clash r x notes is e = built_of h rows slot w m k f clash x.answer notes (sym is ∙ same_refusal r N.Clash e)

-- a clash that is named is one
pub clash_had : (clash : Option BlockId) (n : Moment) (r : No) → (◌≡◌ {A = Result (List ℕ) No} (Err r) (Err N.Clash) → NamesClash clash n) → r ≡ N.Clash → HasClash n
clash_had None n r names e = absurd (names (ap (λ (x : No). Err x) e))
clash_had (Some id) n r names e = let x = names (ap (λ (y : No). Err y) e) in (x.new ∷ [], x.hit)

-- ---- no clash

unclashed : (P : No → Type 0) (r : No) → P r → (P N.Clash → ⊥) → ◌≡◌ {A = Result (List ℕ) No} (Err r) (Err N.Clash) → ⊥
unclashed P r is none e = none (subst P (same_refusal r N.Clash e) is)

-- where a json text means no part
pub part_unclashed : (rows : List Row) (slot : Slot) (json : List ℕ) (r : No) → PartAnswer rows slot json (Err r) → ◌≡◌ {A = Result (List ℕ) No} (Err r) (Err N.Clash) → ⊥
part_unclashed rows slot json r a = unclashed (λ r. PartAnswer rows slot json (Err r)) r a (λ x. x)

-- where there is no place
pub nowhere_unclashed : (h : List ℕ → List ℕ) (d : Doc) (m n : Moment) (r : No) → FindFails h d m (Err r) n → ◌≡◌ {A = Result (List ℕ) No} (Err r) (Err N.Clash) → ⊥
nowhere_unclashed h d m n r f = unclashed (λ r. FindFails h d m (Err r) n) r f (λ x. x)

-- where a part may not come to its place
pub refused_unclashed : (place : Place) (w : Value) (o : Option No) (r : No) → IsPartRefusal place w o → o ≡ Some r → ◌≡◌ {A = Result (List ℕ) No} (Err r) (Err N.Clash) → ⊥
refused_unclashed place w o r x is = unclashed (λ r. r ≡ N.Clash → ⊥) r (told_plain (λ r. r ≡ N.Clash → ⊥) (λ e. absurd cc) (λ e. absurd cc) (λ e. absurd cc) (λ e. absurd cc) (λ e. absurd cc) place w o x r is) (λ x. x refl)
