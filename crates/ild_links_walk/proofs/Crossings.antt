-- What a walk leaves of a line along its path, where it is refused or crosses no link.
use Rattle.std.proofs.Common.{◌≡◌, ℕ, ◌+◌, ◌≤◌, Bool, List, [], ◌∷◌, length, Some, None, IsSome, Ok, Err, refl, sym, ap, ◌∙◌, subst, arith}
use Rattle.std.proofs.lemmas.Option.{none-some}
use Rattle.ild_edges.specs.Count.{Rose}
use Rattle.ild_edges.specs.Store.{Moment}
use Rattle.ild_links.specs.Follows.{hops_of}
use Rattle.ild_links.specs.Walk.{Ending, Entered, Walked, ended, not_held}
use Rattle.ild_links.specs.declared.hop.Hop.{Hop}
use Rattle.ild_links_lines.specs.Lines.{WalksFrom, path_in, walk_gets}
use Rattle.ild_links_lines.specs.Walks.{Crosses, StaysInFirst, WalkCause, WalksAlong}
use Rattle.ild_links_walk.proofs.Refused.{at_later, enters_some, refused}
use Rattle.ild_links_walk.specs.Last.{crossed, last_hop}
use Rattle.ild_path_edits.specs.Judged.{Tests}
use Rattle.ild_run_standing.specs.Standing.{IsHeldAt, setting_of}
use Rattle.ild_schema.specs.Value.{Value}
use Rattle.ild_script.specs.declared.reply.No.{No}
use Rattle.ild_script.specs.declared.reply.No.TheVariants as N
use Rattle.ild_script.specs.declared.reply.Reply.TheVariants as R
use Rattle.ild_script_meaning.specs.Ask.{Ask}
use Rattle.ild_view_doc.specs.declared.doc.Doc.{Doc}

no_root : (refusal : No) (i : _) → Some (R.No refusal) ≡ Some (R.Root i) → ⊥
no_root refusal i is = absurd (cc is)

refusal_is : (refusal other : No) → Some (R.No refusal) ≡ Some (R.No other) → refusal ≡ other
refusal_is refusal other is = cc is

module _ (h : List ℕ → List ℕ) (d : Doc) (inside : Bool) (a : Ask) (path : List (List ℕ)) (m n : Moment) where
  failed_by : (refusal : No) → WalkCause m (Err refusal) n → refusal ≡ N.Store → Rose m.faults n.faults
  failed_by refusal cause is = subst (λ (r : No). WalkCause m (Err r) n) is cause

  pub crosses_refused : IsSome (path_in a) → (refusal : No) → WalksAlong h d path m (Err refusal) n → Crosses h inside d d a path m (Some (R.No refusal)) n
  crosses_refused along refusal x = record {
    later = x.later;
    table = refl;
    type = refl;
    none = λ is. absurd (none-some (R.No refusal) (sym is));
    still = λ is. (refl, x.blocks, x.puts);
    kept = λ r is. refl;
    told = λ t old is. refl;
    rooted = λ i is. absurd (no_root refusal i is);
    failed = λ is. failed_by refusal x.cause (refusal_is refusal N.Store is);
    leads = λ tests held v are told at. refused h d inside a along path m n refusal x tests held v told at;
  }

  -- the first tree alone
  alone_by : (hops : List Hop) → WalksAlong h d path m (Ok hops) n → crossed hops ≡ None → (tests : Tests) (held : List (List ℕ)) (v : Value) (walked : Walked Value) → m.blocks ≡ Some held → IsHeldAt h d tests m v
      → WalksFrom (setting_of h d tests) held v path walked → (es : List (Entered Value)) → walked.trees ≡ es → StaysInFirst (setting_of h d tests) inside a path m v walked n v
  alone_by hops x none tests held v walked told at walk [] are =
      let some = enters_some (setting_of h d tests) held v path walked walk in
      let empty = ap length are in
      absurd (omega (arith, some, empty))
  alone_by hops x none tests held v walked told at walk (e ∷ []) are =
      let so = x.told tests held v walked told at walk in
      let few : n.gets ≤ m.gets + walk_gets (setting_of h d tests) v path walked.trees = so.gets (λ j is. let apart : ended ≡ not_held j = sym so.agrees.0 ∙ is in absurd (cc apart)) in
      record {
        first = e;
        alone = ap (λ (es : List (Entered Value)). record { trees = es; ending = walked.ending }) are ∙ ap (λ (end : Ending). record { trees = e ∷ []; ending = end }) so.agrees.0;
        gets = subst (λ (es : List (Entered Value)). n.gets ≤ m.gets + walk_gets (setting_of h d tests) v path es) are few;
      }
  alone_by hops x none tests held v walked told at walk (e ∷ f ∷ es) are =
      let so = x.told tests held v walked told at walk in
      let hops_are : hops ≡ hops_of (e ∷ f ∷ es) = so.agrees.1 ∙ ap (λ (es : List (Entered Value)). hops_of es) are in
      absurd (none-some (last_hop f.hop (hops_of es)) (sym none ∙ ap crossed hops_are))

  pub crosses_none : (hops : List Hop) → WalksAlong h d path m (Ok hops) n → crossed hops ≡ None → Crosses h inside d d a path m None n
  crosses_none hops x none = record {
    later = x.later;
    table = refl;
    type = refl;
    none = λ is. (refl, x.blocks, x.puts);
    still = λ is. (refl, x.blocks, x.puts);
    kept = λ r is. refl;
    told = λ t old is. refl;
    rooted = λ i is. absurd (none-some (R.Root i) is);
    failed = λ is. absurd (none-some (R.No N.Store) is);
    leads = λ tests held v are told at. record {
      next = v;
      at = at_later h d tests m n held v told x.blocks at;
      along = λ walked walk. alone_by hops x none tests held v walked told at walk walked.trees refl;
    };
  }
