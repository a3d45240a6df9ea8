use Rattle.std.proofs.Common.{◌∙◌, ap, sym, subst}
use Rattle.ild_data.specs.Seen.{data_of}
use Rattle.ild_data.specs.Spell.{id_of}
use Rattle.ild_open.specs.Blocks.{bytes_in}
use Rattle.ild_script.specs.declared.reply.No.{No}
use Rattle.ild_script.specs.declared.reply.Reply.TheVariants as R
use Rattle.ild_view.specs.View.{slot_of, table_of}
use Rattle.ild_run_reads.specs.Replies.{IsOfRead, RepliesAs}
use Rattle.ild_run_reads.proofs.Replying.{refused_blames, refused_own, replies_refused, replies_told, told_own, told_unblamed}
use Rattle.ild_run_reads.proofs.reading.read.Goals as goal

pub returns-in-Ok-clause-replies : goal.returns-in-Ok-clause-replies
returns-in-Ok-clause-replies g c =
    replies_told g.H.KeyHash.hash_of c.args.view.now c.args.path.now c.args.what (g.K.Store.moment c.args.store.now) (g.K.Store.moment c.tell.new.store) c.in-Ok.tree c.in-Ok.ensures.tells c.reply_of.result c.reply_of.ensures

pub returns-in-Ok-clause-own : goal.returns-in-Ok-clause-own
returns-in-Ok-clause-own g c = told_own (data_of c.in-Ok.tree) c.reply_of.result c.reply_of.ensures

pub returns-in-Ok-clause-blamed : goal.returns-in-Ok-clause-blamed
returns-in-Ok-clause-blamed g c = λ e f t is front. absurd (told_unblamed (data_of c.in-Ok.tree) c.reply_of.result c.reply_of.ensures e)

pub returns-in-Err-clause-replies : goal.returns-in-Err-clause-replies
returns-in-Err-clause-replies g c =
    subst (λ (no : No). RepliesAs g.H.KeyHash.hash_of c.args.view.now c.args.path.now c.args.what (g.K.Store.moment c.args.store.now) (R.No no) (g.K.Store.moment c.tell.new.store)) (sym c.refusal.ensures)
    (replies_refused g.H.KeyHash.hash_of c.args.view.now c.args.path.now c.args.what (g.K.Store.moment c.args.store.now) (g.K.Store.moment c.tell.new.store) c.in-Err.fault c.in-Err.ensures.tells)

pub returns-in-Err-clause-own : goal.returns-in-Err-clause-own
returns-in-Err-clause-own g c = subst (λ (no : No). IsOfRead (R.No no)) (sym c.refusal.ensures) (refused_own c.in-Err.fault)

pub returns-in-Err-clause-blamed : goal.returns-in-Err-clause-blamed
returns-in-Err-clause-blamed g c = λ e f t is front.
    refused_blames g.H.KeyHash.hash_of (table_of c.args.view.now) (id_of (bytes_in c.args.at)) (slot_of c.args.view.now) t (g.K.Store.moment c.args.store.now) (g.K.Store.moment c.tell.new.store) c.in-Err.fault
    (c.in-Err.ensures.refused f t is front) (ap R.No (sym c.refusal.ensures) ∙ e)
