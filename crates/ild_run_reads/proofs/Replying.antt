-- What is told of a part, as the reply that is due.
use Rattle.std.proofs.Common.{◌≡◌, ◌⊎◌, inl, inr, ℕ, ◌+◌, ◌≤◌, List, [], Option, Some, None, Ok, Err, refl, sym, ap, ◌∙◌, subst, arith}
use Rattle.ild_data.specs.Data.{Data}
use Rattle.ild_data.specs.Limits.{deepest}
use Rattle.ild_data.specs.Seen.{data_of}
use Rattle.ild_data.specs.declared.tree.Tree.{Tree}
use Rattle.ild_edges.specs.Count.{Rose}
use Rattle.ild_edges.specs.Store.{Moment}
use Rattle.ild_json.specs.Printing.{json_text}
use Rattle.ild_script_meaning.specs.Costs.{tell_gets, told_nodes}
use Rattle.ild_script_meaning.specs.Lines as L
use Rattle.ild_script_meaning.specs.Lines.{Setting, in_slot, printed, printed_or, read_reply, told_of}
use Rattle.ild_schema.specs.Value.{Value}
use Rattle.ild_schema.specs.declared.number.Slot.{Slot}
use Rattle.ild_schema.specs.declared.row.Row.{Row}
use Rattle.ild_script.specs.declared.reply.No.TheVariants as N
use Rattle.ild_script.specs.declared.reply.Reply.{Reply}
use Rattle.ild_script.specs.declared.reply.Reply.TheVariants as R
use Rattle.ild_script_session.specs.Step.{IsExcused}
use Rattle.ild_typed.specs.At.{InSlot, at, met}
use Rattle.ild_view.specs.View.{slot_of, table_of}
use Rattle.ild_view.specs.declared.view.View.{View}
use Rattle.ild_run_follow.specs.Tells.{FailsOnly, TellAnswer, TellsFrom, counts, part_nodes}
use Rattle.ild_run_follow.specs.Refuses.{RefusesBroken}
use Rattle.ild_run_follow.specs.Told.{told}
use Rattle.ild_run_follow.specs.declared.fault.ReadFault.{ReadFault}
use Rattle.ild_run_follow.specs.declared.fault.ReadFault.TheVariants as F
use Rattle.ild_run_follow.specs.declared.kind.Tell.{Tell}
use Rattle.ild_run_follow.specs.declared.kind.Tell.TheVariants as T
use Rattle.ild_run_reads.specs.Replies.{IsAbout, IsBlamed, IsOfRead, RepliesAs, asked, refusal_of}

-- the definitions of lines, and those of what is told
told_here : (w : Setting) (tell : Tell) (o : Option InSlot) → told_of w (asked tell) o ≡ told w.hash w.rows tell o
told_here w T.Shown o = refl
told_here w T.Representation o = refl
told_here w T.Presence o = refl
told_here w T.Count o = refl
told_here w T.Parts o = refl

nodes_here : (w : Setting) (tell : Tell) (o : Option InSlot) → told_nodes w.hash w.rows (asked tell) o ≡ part_nodes w.hash w.rows tell o
nodes_here w T.Shown o = refl
nodes_here w T.Representation o = refl
nodes_here w T.Presence o = refl
nodes_here w T.Count o = refl
nodes_here w T.Parts o = refl

module _ (h : List ℕ → List ℕ) (view : View) (path : List (List ℕ)) (tell : Tell) (m n : Moment) where
  due_is : (w : Setting) (v : Value) → IsAbout h w view → told_of w (asked tell) (at w.rows (in_slot w v) path) ≡ told h (table_of view) tell (at (table_of view) (slot_of view, v) path)
  due_is w v a = told_here w tell (at w.rows (in_slot w v) path) ∙ (λ i. told (a.hash i) (a.rows i) tell (at (a.rows i) (a.slot i, v) path))

  gets_are : (w : Setting) (v : Value) → IsAbout h w view → n.gets ≤ m.gets + (met (table_of view) (counts h (table_of view)) (slot_of view, v) path + part_nodes h (table_of view) tell (at (table_of view) (slot_of view, v) path))
      → n.gets + 1 ≤ m.gets + tell_gets w.hash w.rows (asked tell) (in_slot w v) path
  gets_are w v a own =
      let way : met w.rows (counts w.hash w.rows) (in_slot w v) path ≡ met (table_of view) (counts h (table_of view)) (slot_of view, v) path =
      (λ i. met (a.rows i) (counts (a.hash i) (a.rows i)) (a.slot i, v) path) in
      let nodes : told_nodes w.hash w.rows (asked tell) (at w.rows (in_slot w v) path) ≡ part_nodes h (table_of view) tell (at (table_of view) (slot_of view, v) path) =
      nodes_here w tell (at w.rows (in_slot w v) path) ∙ (λ i. part_nodes (a.hash i) (a.rows i) tell (at (a.rows i) (a.slot i, v) path)) in
      let all : tell_gets w.hash w.rows (asked tell) (in_slot w v) path ≡ 1 + met w.rows (counts w.hash w.rows) (in_slot w v) path + told_nodes w.hash w.rows (asked tell) (at w.rows (in_slot w v) path) = refl in
      omega (arith, own, way, nodes, all)

  excused : (reply : Reply) → reply ≡ R.No N.Memory → IsExcused m [] (Some reply) n n
  excused reply is = subst (λ (r : Reply). IsExcused m [] (Some r) n n) (sym is) (inl tt)

  printed_fails : (o : Option (List ℕ)) → printed_or o ≡ R.No N.Store → Rose m.faults n.faults
  printed_fails None e = absurd cc
  printed_fails (Some text) e = absurd cc

  told_fails : (d : Data) (reply : Reply) → (reply ≡ printed d) ⊎ (reply ≡ R.No N.Memory) → reply ≡ R.No N.Store → Rose m.faults n.faults
  told_fails d reply (inl is) e = printed_fails (json_text d) (sym is ∙ e)
  told_fails d reply (inr is) e = let x : R.No N.Memory ≡ R.No N.Store = sym is ∙ e in absurd cc

  refused_fails : (e : ReadFault) → FailsOnly {A = Tree} m (Err e) n → R.No (refusal_of e) ≡ R.No N.Store → Rose m.faults n.faults
  refused_fails F.Path f is = absurd cc
  refused_fails (F.Block id why) f is = absurd cc
  refused_fails F.Store f is = f
  refused_fails F.Memory f is = absurd cc

  pub replies_told : (tree : Tree) → TellsFrom h 96 view path tell m (Ok tree) n → (reply : Reply) → (reply ≡ printed (data_of tree)) ⊎ (reply ≡ R.No N.Memory) → RepliesAs h view path tell m reply n
  replies_told tree l reply r = record {
    answer = λ w t v a x. by w v a (l.answer t v x) r;
    gets = λ w t v a x. gets_are w v a (l.gets t v x);
    only = l.only;
    failed = told_fails (data_of tree) reply r;
  } where
    by : (w : Setting) (v : Value) → IsAbout h w view → told h (table_of view) tell (at (table_of view) (slot_of view, v) path) ≡ Some (data_of tree) → (reply ≡ printed (data_of tree)) ⊎ (reply ≡ R.No N.Memory)
        → (reply ≡ read_reply w (asked tell) path v) ⊎ IsExcused m [] (Some reply) n n
    by w v a due (inl is) = inl (is ∙ sym (ap L.told (due_is w v a ∙ due)))
    by w v a due (inr is) = inr (excused reply is)

  refused : (w : Setting) (v : Value) (e : ReadFault) → IsAbout h w view → TellAnswer (told h (table_of view) tell (at (table_of view) (slot_of view, v) path)) m (Err e) n
      → (R.No (refusal_of e) ≡ read_reply w (asked tell) path v) ⊎ IsExcused m [] (Some (R.No (refusal_of e))) n n
  refused w v F.Path a none = inl (sym (ap L.told (due_is w v a ∙ none)))
  refused w v (F.Block id why) a x = absurd x
  refused w v F.Store a rose = inr (inl rose)
  refused w v F.Memory a x = inr (inl tt)

  pub replies_refused : (e : ReadFault) → TellsFrom h 96 view path tell m (Err e) n → RepliesAs h view path tell m (R.No (refusal_of e)) n
  replies_refused e l = record {
    answer = λ w t v a x. refused w v e a (l.answer t v x);
    gets = λ w t v a x. gets_are w v a (l.gets t v x);
    only = l.only;
    failed = refused_fails e l.failed;
  }

-- ---- no root is told, and nothing clashes

printed_own : (o : Option (List ℕ)) → IsOfRead (printed_or o)
printed_own None = tt
printed_own (Some text) = tt

pub told_own : (d : Data) (reply : Reply) → (reply ≡ printed d) ⊎ (reply ≡ R.No N.Memory) → IsOfRead reply
told_own d reply (inl is) = subst (λ (r : Reply). IsOfRead r) (sym is) (printed_own (json_text d))
told_own d reply (inr is) = subst (λ (r : Reply). IsOfRead r) (sym is) tt

pub refused_own : (e : ReadFault) → IsOfRead (R.No (refusal_of e))
refused_own F.Path = tt
refused_own (F.Block id why) = tt
refused_own F.Store = tt
refused_own F.Memory = tt

-- ---- a block is blamed

printed_unblamed : (o : Option (List ℕ)) → printed_or o ≡ R.No N.Block → ⊥
printed_unblamed None e = absurd cc
printed_unblamed (Some text) e = absurd cc

-- data that are printed blame none
pub told_unblamed : (d : Data) (reply : Reply) → (reply ≡ printed d) ⊎ (reply ≡ R.No N.Memory) → reply ≡ R.No N.Block → ⊥
told_unblamed d reply (inl is) e = printed_unblamed (json_text d) (sym is ∙ e)
told_unblamed d reply (inr is) e = let x : R.No N.Memory ≡ R.No N.Block = sym is ∙ e in absurd cc

-- a fault that blames one has its cause
pub refused_blames : (h : List ℕ → List ℕ) (rows : List Row) (at : List ℕ) (s : Slot) (t : Data) (m n : Moment) (e : ReadFault) → RefusesBroken {A = Tree} h rows at deepest s t m (Err e) n
    → R.No (refusal_of e) ≡ R.No N.Block → IsBlamed h rows m.blocks m.lacks n.lacks at s t
refused_blames h rows at s t m n F.Path x is = absurd cc
refused_blames h rows at s t m n (F.Block id why) x is = record { id = id.0; why = why; broken = x }
refused_blames h rows at s t m n F.Store x is = absurd cc
refused_blames h rows at s t m n F.Memory x is = absurd cc
