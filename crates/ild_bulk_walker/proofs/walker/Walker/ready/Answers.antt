use Rattle.std.proofs.Common.{◌<◌, length, ◌∙◌, sym, subst, arith}
use Rattle.ild_data.specs.declared.hamt_shape.HamtShape.{HamtShape}
use Rattle.ild_data.specs.TrieShape.{trie_levels}
use Rattle.ild_bulk_walker.specs.Ahead.{walker_path}
use Rattle.std.proofs.lemmas.List.{length-map}
use Rattle.std.proofs.lemmas.Result.{err_from_is_err_and}
use Rattle.ild_bulk_walker.specs.declared.step.Child.{Child}
use Rattle.ild_bulk_walker.proofs.Nexting.{next-deep, next-left, next-entered, comes}
use Rattle.ild_bulk_walker.proofs.Shaped.{enters-all}
use Rattle.ild_bulk_walker.proofs.walker.Walker.ready.Goals as goal

pub returns-then-not-has_level-clause-readies : goal.returns-then-not-has_level-clause-readies
returns-then-not-has_level-clause-readies g c = λ h.
    let seen = length-map c.args.self.now.path.items (λ (d : Child). d.index) in
    next-deep c.args.self.now.shape h (g.K.Store.moment c.args.store.now) c.args.self.now c.fault.result (let deep = c.has_level.ensures.no c.if-not-has_level.true in omega (arith, deep, c.len.ensures, seen)) c.fault.ensures.trie

pub returns-in_err-leave_done-clause-readies : goal.returns-in_err-leave_done-clause-readies
returns-in_err-leave_done-clause-readies g c =
    let p = err_from_is_err_and c.from_residual.result c.from_residual.ensures.1 in
    let seen = length-map c.args.self.now.path.items (λ (d : Child). d.index) in
    rw (p.1, p.2) (λ h. next-left c.args.self.now.shape h (g.K.Store.moment c.args.store.now) c.args.self.now c.leave_done.new.self c.in_err-leave_done.field-0.0 (let short = c.has_level.ensures.yes c.if-not-has_level.false in omega (arith, short, c.len.ensures, seen)) c.in_err-leave_done.ensures.left)

pub returns-in_err-enter_all-clause-readies : goal.returns-in_err-enter_all-clause-readies
returns-in_err-enter_all-clause-readies g c =
    let p = err_from_is_err_and c.from_residual-in_err-enter_all.result c.from_residual-in_err-enter_all.ensures.1 in
    let seen = length-map c.args.self.now.path.items (λ (d : Child). d.index) in
    rw (p.1, p.2) (λ h. next-entered c.args.self.now.shape h (g.K.Store.moment c.args.store.now) (g.K.Store.moment c.enter_all.new.store) c.args.self.now c.leave_done.new.self c.enter_all.new.self c.in_err-enter_all.field-0.0
    (let short = c.has_level.ensures.yes c.if-not-has_level.false in omega (arith, short, c.len.ensures, seen)) c.in_ok-leave_done.ensures.left (enters-all c.in_ok-leave_done.ensures.shape c.in_err-enter_all.ensures.enters))

pub returns-clause-readies : goal.returns-clause-readies
returns-clause-readies g c =
    let seen = length-map c.args.self.now.path.items (λ (d : Child). d.index) in
    comes c.args.self.now.shape (g.K.Store.moment c.args.store.now) (g.K.Store.moment c.enter_all.new.store) c.args.self.now c.leave_done.new.self c.enter_all.new.self (let short = c.has_level.ensures.yes c.if-not-has_level.false in omega (arith, short, c.len.ensures, seen))
    c.in_ok-leave_done.ensures.left (enters-all c.in_ok-leave_done.ensures.shape c.in_ok-enter_all.ensures.enters)

pub returns-clause-short : goal.returns-clause-short
returns-clause-short g c =
    subst (λ (q : HamtShape). length (walker_path c.enter_all.new.self) < trie_levels q) (sym c.in_ok-enter_all.ensures.shape) c.in_ok-enter_all.ensures.enters.short

pub returns-clause-shape : goal.returns-clause-shape
returns-clause-shape g c = c.in_ok-enter_all.ensures.shape ∙ c.in_ok-leave_done.ensures.shape

pub returns-in_err-enter_all-clause-shape : goal.returns-in_err-enter_all-clause-shape
returns-in_err-enter_all-clause-shape g c = c.in_err-enter_all.ensures.shape ∙ c.in_ok-leave_done.ensures.shape

pub enter_all-requires-clause-short : goal.enter_all-requires-clause-short
enter_all-requires-clause-short g c =
    let seen = length-map c.args.self.now.path.items (λ (d : Child). d.index) in
    let less = c.in_ok-leave_done.ensures.left.path in
    subst (λ (q : HamtShape). length (walker_path c.leave_done.new.self) < trie_levels q) (sym c.in_ok-leave_done.ensures.shape) (let short = c.has_level.ensures.yes c.if-not-has_level.false in omega (arith, short, c.len.ensures, seen, less))
