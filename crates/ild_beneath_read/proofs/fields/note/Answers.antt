use Rattle.std.proofs.Common.{◌≡◌, true, false, sym, ap, ◌∙◌, arith}
use Rattle.ild_beneath_read.specs.inside.Fields.{is_free}
use Rattle.ild_beneath_read.proofs.Looking.{free_within, kept_noted, set_noted}
use Rattle.ild_beneath_read.proofs.fields.note.Goals as goal

pub index_mut-requires : goal.index_mut-requires
index_mut-requires c =
    let free : is_free c.args.found.now.items c.args.place ≡ true = ap (λ ns. is_free ns c.args.place) (sym c.as_slice.ensures.value) ∙ sym c.is_free.ensures ∙ c.if-is_free.true in
    let less = free_within c.args.found.now.items c.args.place free in
    let long = c.args.found.now.ok.0 in
    omega (arith, less, long)

pub returns-then-is_free : goal.returns-then-is_free
returns-then-is_free c =
    let free : is_free c.args.found.now.items c.args.place ≡ true = ap (λ ns. is_free ns c.args.place) (sym c.as_slice.ensures.value) ∙ sym c.is_free.ensures ∙ c.if-is_free.true in
    set_noted c.args.place c.args.node c.args.found.now.items free

pub returns-else-is_free : goal.returns-else-is_free
returns-else-is_free c =
    let taken : is_free c.args.found.now.items c.args.place ≡ false = ap (λ ns. is_free ns c.args.place) (sym c.as_slice.ensures.value) ∙ sym c.is_free.ensures ∙ c.if-is_free.false in
    kept_noted c.args.place c.args.node c.args.found.now.items taken
