-- What the crossing calls answer, as a line along a path of a document.
use Rattle.std.proofs.Common.{◌≡◌, inl, inr, ℕ, List, Bool, Option, Some, None, refl, sym, ap, ◌∙◌, subst, arith}
use Rattle.std.proofs.Math.Logic.{∥∥₁_map}
use Rattle.std.proofs.lemmas.Option.{none-some, same_Some}
use Rattle.ild_data.specs.Spell.{id_of}
use Rattle.ild_edges.proofs.Later.{Later-refl}
use Rattle.ild_edges.specs.Store.{Moment, block_at}
use Rattle.ild_links_lines.specs.Lines.{WalksFrom, path_in, walk_due}
use Rattle.ild_links_lines.specs.Walks.{Crosses, CrossingAnswer, LeadsAcross}
use Rattle.ild_links_session.proofs.Behind.{held_on}
use Rattle.ild_links_session.proofs.Twice.{still_at}
use Rattle.ild_links_session.specs.inside.Asking.{tell_by, verb_by}
use Rattle.ild_links_session.specs.inside.Looking.{CrossesFrom}
use Rattle.ild_path_place.specs.declared.verb.Verb.{Verb}
use Rattle.ild_path_place.specs.declared.verb.Verb.TheVariants as V
use Rattle.ild_run_document.proofs.Settings.{settings, tests_on}
use Rattle.ild_run_edit.specs.Edits.{edit_of}
use Rattle.ild_run_follow.specs.declared.kind.Tell.{Tell}
use Rattle.ild_run_follow.specs.declared.kind.Tell.TheVariants as T
use Rattle.ild_run_links.specs.Moments.{HoldsBlock, HoldsValue}
use Rattle.ild_run_reads.specs.Replies.{asked as told_as}
use Rattle.ild_run_standing.specs.Standing.{setting_of}
use Rattle.ild_schema.specs.declared.number.TypeNo.{TypeNo}
use Rattle.ild_schema.specs.declared.row.Row.{Row}
use Rattle.ild_script.specs.declared.reply.No.TheVariants as N
use Rattle.ild_script.specs.declared.reply.Reply.{Reply}
use Rattle.ild_script.specs.declared.reply.Reply.TheVariants as R
use Rattle.ild_script.specs.declared.word.Word.{Word}
use Rattle.ild_script.specs.declared.word.Word.TheVariants as W
use Rattle.ild_script_meaning.specs.Ask.{Ask, asked_by, to_edit, to_tell}
use Rattle.ild_script_meaning.specs.Lines.{Setting, typed_lines}
use Rattle.ild_script_session.specs.Session.{idle, resting}
use Rattle.ild_typed.specs.Stands.{Stands, bare}
use Rattle.ild_view_doc.specs.Docs.{IsSame, block_in, table_in, type_in}
use Rattle.ild_view_doc.specs.declared.doc.Doc.{Doc}

-- ---- from a copy of the document

pub crosses_from : (d c e : Doc) (inside : Bool) (a : Ask) (path : List (List ℕ)) (m : Moment) (found : Option Reply) (n : Moment) → IsSame d c → Crosses id_of inside c e a path m found n → Crosses id_of inside d e a path m found n
crosses_from d c e inside a path m found n same x = record {
  later = x.later;
  table = x.table ∙ same.table;
  type = x.type ∙ same.type;
  none = λ is. let y = x.none is in (y.0 ∙ same.block, y.1, y.2);
  still = λ is. let y = x.still is in (y.0 ∙ same.block, y.1, y.2);
  kept = λ refusal is. x.kept refusal is ∙ same.block;
  told = λ t own is. x.told t own is ∙ same.block;
  rooted = x.rooted;
  failed = x.failed;
  leads = λ tests held v are told at.
      let l : LeadsAcross id_of inside c e tests a path m held v found n = x.leads tests held v (tests_on d c tests same.table are) told (held_on d c tests m m v same (Later-refl m) refl at) in
      let one : setting_of id_of d tests ≡ setting_of id_of c tests = settings id_of d c tests same.table same.type in
      record {
        next = l.next;
        at = l.at;
        along = λ walked walk. subst (λ (w : Setting). CrossingAnswer w inside a path m v walked n l.next found) (sym one) (l.along walked (subst (λ (w : Setting). WalksFrom w held v path walked) one walk));
      };
}

-- memory is wanting
pub crosses_memory : (d : Doc) (inside : Bool) (a : Ask) (path : List (List ℕ)) (m : Moment) → Crosses id_of inside d d a path m (Some (R.No N.Memory)) m
crosses_memory d inside a path m = record {
  later = Later-refl m;
  table = refl;
  type = refl;
  none = λ is. absurd cc;
  still = λ is. (refl, refl, refl);
  kept = λ refusal is. refl;
  told = λ t own is. refl;
  rooted = λ id is. absurd cc;
  failed = λ is. absurd cc;
  leads = λ tests held v are told at. record {
    next = v;
    at = at;
    along = λ walked walk. (0, still_at (typed_lines (setting_of id_of d tests)) m m (resting v) (walk_due (setting_of id_of d tests) inside (idle v) a path 0 walked) (Some (R.No N.Memory)) (Later-refl m) refl (omega arith) refl (inr (inl tt)));
  };
}

-- ---- the lines, by their words

of_path : (d e : Doc) (inside : Bool) (a : Ask) (path : List (List ℕ)) (m : Moment) (found : Option Reply) (n : Moment) → path_in a ≡ Some path → Crosses id_of inside d e a path m found n
    → (own : List (List ℕ)) → path_in a ≡ Some own → Crosses id_of inside d e a own m found n
of_path d e inside a path m found n is x own is_own = subst (λ (p : List (List ℕ)). Crosses id_of inside d e a p m found n) (same_Some path own (sym is ∙ is_own)) x

tell_asked : (word : Word) (what : Tell) (path : List (List ℕ)) (json : List ℕ) → tell_by word ≡ Some what → asked_by word path json ≡ to_tell (told_as what) path
tell_asked W.Get what path json is = ap (λ t. to_tell (told_as t) path) (same_Some T.Shown what is)
tell_asked W.Rep what path json is = ap (λ t. to_tell (told_as t) path) (same_Some T.Representation what is)
tell_asked W.Has what path json is = ap (λ t. to_tell (told_as t) path) (same_Some T.Presence what is)
tell_asked W.Len what path json is = ap (λ t. to_tell (told_as t) path) (same_Some T.Count what is)
tell_asked W.Walk what path json is = ap (λ t. to_tell (told_as t) path) (same_Some T.Parts what is)
tell_asked W.Set what path json is = absurd (none-some what is)
tell_asked W.Ins what path json is = absurd (none-some what is)
tell_asked W.Del what path json is = absurd (none-some what is)
tell_asked W.Root what path json is = absurd (none-some what is)
tell_asked W.Begin what path json is = absurd (none-some what is)
tell_asked W.Commit what path json is = absurd (none-some what is)
tell_asked W.Abort what path json is = absurd (none-some what is)

edit_asked : (word : Word) (verb : Verb) (path : List (List ℕ)) (json : List ℕ) → verb_by word ≡ Some verb → asked_by word path json ≡ to_edit (edit_of verb path json)
edit_asked W.Set verb path json is = ap (λ v. to_edit (edit_of v path json)) (same_Some V.Set verb is)
edit_asked W.Ins verb path json is = ap (λ v. to_edit (edit_of v path json)) (same_Some V.Ins verb is)
edit_asked W.Del verb path json is = ap (λ v. to_edit (edit_of v path json)) (same_Some V.Del verb is)
edit_asked W.Get verb path json is = absurd (none-some verb is)
edit_asked W.Rep verb path json is = absurd (none-some verb is)
edit_asked W.Has verb path json is = absurd (none-some verb is)
edit_asked W.Len verb path json is = absurd (none-some verb is)
edit_asked W.Walk verb path json is = absurd (none-some verb is)
edit_asked W.Root verb path json is = absurd (none-some verb is)
edit_asked W.Begin verb path json is = absurd (none-some verb is)
edit_asked W.Commit verb path json is = absurd (none-some verb is)
edit_asked W.Abort verb path json is = absurd (none-some verb is)

edit_path : (verb : Verb) (path : List (List ℕ)) (json : List ℕ) → path_in (to_edit (edit_of verb path json)) ≡ Some path
edit_path V.Set path json = refl
edit_path V.Ins path json = refl
edit_path V.Del path json = refl

pub tells_from : (d : Doc) (inside : Bool) (word : Word) (what : Tell) (path : List (List ℕ)) (json : List ℕ) (m : Moment) (found : Option Reply) (n : Moment) → tell_by word ≡ Some what
    → Crosses id_of inside d d (to_tell (told_as what) path) path m found n → CrossesFrom d inside (asked_by word path json) m found None n
tells_from d inside word what path json m found n is x =
    subst (λ (a : Ask). CrossesFrom d inside a m found None n) (sym (tell_asked word what path json is)) (of_path d d inside (to_tell (told_as what) path) path m found n refl x)

pub edits_from : (d c e : Doc) (inside : Bool) (word : Word) (verb : Verb) (path : List (List ℕ)) (json : List ℕ) (m : Moment) (found : Option Reply) (n : Moment) → verb_by word ≡ Some verb → IsSame d c
    → Crosses id_of inside c e (to_edit (edit_of verb path json)) path m found n → CrossesFrom d inside (asked_by word path json) m found (Some e) n
edits_from d c e inside word verb path json m found n is same x =
    subst (λ (a : Ask). CrossesFrom d inside a m found (Some e) n) (sym (edit_asked word verb path json is))
    (of_path d e inside (to_edit (edit_of verb path json)) path m found n (edit_path verb path json) (crosses_from d c e inside (to_edit (edit_of verb path json)) path m found n same x))

pub memory_from : (d : Doc) (inside : Bool) (a : Ask) (m : Moment) → CrossesFrom d inside a m (Some (R.No N.Memory)) None m
memory_from d inside a m = λ path is. crosses_memory d inside a path m

-- a line along no path
pub none_from : (d : Doc) (inside : Bool) (word : Word) (path : List (List ℕ)) (json : List ℕ) (m : Moment) → tell_by word ≡ None → verb_by word ≡ None → CrossesFrom d inside (asked_by word path json) m None None m
none_from d inside W.Get path json m tells edits = absurd (none-some T.Shown (sym tells))
none_from d inside W.Rep path json m tells edits = absurd (none-some T.Representation (sym tells))
none_from d inside W.Has path json m tells edits = absurd (none-some T.Presence (sym tells))
none_from d inside W.Len path json m tells edits = absurd (none-some T.Count (sym tells))
none_from d inside W.Walk path json m tells edits = absurd (none-some T.Parts (sym tells))
none_from d inside W.Set path json m tells edits = absurd (none-some V.Set (sym edits))
none_from d inside W.Ins path json m tells edits = absurd (none-some V.Ins (sym edits))
none_from d inside W.Del path json m tells edits = absurd (none-some V.Del (sym edits))
none_from d inside W.Root path json m tells edits = λ own is. absurd (none-some own is)
none_from d inside W.Begin path json m tells edits = λ own is. absurd (none-some own is)
none_from d inside W.Commit path json m tells edits = λ own is. absurd (none-some own is)
none_from d inside W.Abort path json m tells edits = λ own is. absurd (none-some own is)

-- ---- a copy's block is held

pub copy_held : (d c : Doc) (m : Moment) → IsSame d c → HoldsBlock d m → HoldsBlock c m
copy_held d c m same holds held told = ap (λ b. block_at held (id_of b)) same.block ∙ holds held told ∙ ap Some (sym same.block)

pub copy_stands : (d c : Doc) (m : Moment) → IsSame d c → HoldsValue id_of d m → HoldsValue id_of c m
copy_stands d c m same holds held told = ∥∥₁_map (holds held told) (λ x. record {
  value = x.value;
  stands = subst (λ (rows : List Row). Stands bare (block_at held) id_of rows (type_in c) (id_of (block_in c)) x.value) (sym same.table)
      (subst (λ (ty : TypeNo). Stands bare (block_at held) id_of (table_in d) ty (id_of (block_in c)) x.value) (sym same.type)
      (subst (λ (b : List ℕ). Stands bare (block_at held) id_of (table_in d) (type_in d) (id_of b) x.value) (sym same.block) x.stands));
})
