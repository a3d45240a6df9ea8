use Rattle.std.proofs.Common.{Some, refl, subst}
use Rattle.ild_layer_parts.specs.declared.parts.Parts.TheVariants as P
use Rattle.ild_layer_parts.specs.Ready.{AreReady}
use Rattle.ild_layer_parts.specs.PassedOver.{AreInside}
use Rattle.ild_layer_parts.proofs.Whole.{whole_piece, whole_pieces}
use Rattle.ild_layer_parts.proofs.Stepping.{takes_off, leads_as, left_as}
use Rattle.ild_layer_parts.proofs.parts.Parts.split_first.Goals as goal

pub returns-in-Some-clause-step : goal.returns-in-Some-clause-step
returns-in-Some-clause-step c = λ rows ps h.
    let x = c.in-Some.ensures.step rows ps (left_as rows c.args.self.now (P.List c.in-List.elements) ps c.in-List.is h) in
    takes_off rows ps x.0 c.in-Some.part (P.List c.in-Some.behind) x.1 x.2

pub returns-in-None-clause-step : goal.returns-in-None-clause-step
returns-in-None-clause-step c = λ rows ps h. c.in-None.ensures.step rows ps (left_as rows c.args.self.now (P.List c.in-List.elements) ps c.in-List.is h)

pub returns-in-Some-split_first-clause-step : goal.returns-in-Some-split_first-clause-step
returns-in-Some-split_first-clause-step c = λ rows ps h.
    let x = c.in-Some-split_first.ensures.step rows ps (left_as rows c.args.self.now (P.Map c.in-Map.entries) ps c.in-Map.is h) in
    takes_off rows ps x.0 c.in-Some-split_first.part (P.Map c.in-Some-split_first.behind) x.1 x.2

pub returns-in-None-split_first-clause-step : goal.returns-in-None-split_first-clause-step
returns-in-None-split_first-clause-step c = λ rows ps h. c.in-None-split_first.ensures.step rows ps (left_as rows c.args.self.now (P.Map c.in-Map.entries) ps c.in-Map.is h)

pub returns-in-Member-clause-step : goal.returns-in-Member-clause-step
returns-in-Member-clause-step c = λ rows ps h. takes_off rows ps _ c.in-Member.part P.Nothing (left_as rows c.args.self.now (P.Member c.in-Member.part) ps c.in-Member.is h).0 refl

pub returns-in-Some-split_first-2-clause-step : goal.returns-in-Some-split_first-2-clause-step
returns-in-Some-split_first-2-clause-step c = λ rows ps h.
    let x = c.in-Some-split_first-2.ensures.step rows ps (left_as rows c.args.self.now (P.Root c.in-Root.entries) ps c.in-Root.is h) in
    record { taken = x.taken; others = x.others; is = x.is; first = x.first; left = x.left }

pub returns-in-Some-split_first-2-clause-ready : goal.returns-in-Some-split_first-2-clause-ready
returns-in-Some-split_first-2-clause-ready c = λ rows all.
    let own = subst (AreReady rows) c.in-Root.is all in
    let x = c.in-Some-split_first-2.ensures.ready rows own.0 own.1 in
    (x.0, (x.1, x.2))

pub returns-in-None-split_first-2-clause-step : goal.returns-in-None-split_first-2-clause-step
returns-in-None-split_first-2-clause-step c = λ rows ps h.
    c.in-None-split_first-2.ensures.step rows ps (left_as rows c.args.self.now (P.Root c.in-Root.entries) ps c.in-Root.is h)

pub returns-in-Some-split_first-3-clause-step : goal.returns-in-Some-split_first-3-clause-step
returns-in-Some-split_first-3-clause-step c = λ rows ps h.
    let x = c.in-Some-split_first-3.ensures.step rows ps (left_as rows c.args.self.now (P.Struct c.in-Struct.fields) ps c.in-Struct.is h) in
    record { taken = x.taken; others = x.others; is = x.is; first = x.first; left = x.left }

pub returns-in-Some-split_first-3-clause-ready : goal.returns-in-Some-split_first-3-clause-ready
returns-in-Some-split_first-3-clause-ready c = λ rows all.
    c.in-Some-split_first-3.ensures.ready rows (subst (AreReady rows) c.in-Struct.is all)

pub returns-in-Some-split_first-4-clause-step : goal.returns-in-Some-split_first-4-clause-step
returns-in-Some-split_first-4-clause-step c = λ rows ps h.
    let x = c.in-Some-split_first-4.ensures.step rows ps (left_as rows c.args.self.now (P.Texts c.in-Texts.entries) ps c.in-Texts.is h) in
    takes_off rows ps x.0 c.in-Some-split_first-4.part (P.Texts c.in-Some-split_first-4.behind) x.1 x.2

pub returns-in-Some-split_first-4-clause-ready : goal.returns-in-Some-split_first-4-clause-ready
returns-in-Some-split_first-4-clause-ready c = λ rows all.
    let own = subst (AreReady rows) c.in-Texts.is all in
    let x = c.in-Some-split_first-4.ensures.ready rows own.0 own.1 in
    (x.0, (x.1, x.2))

pub returns-in-None-split_first-3-clause-step : goal.returns-in-None-split_first-3-clause-step
returns-in-None-split_first-3-clause-step c = λ rows ps h.
    c.in-None-split_first-3.ensures.step rows ps (left_as rows c.args.self.now (P.Struct c.in-Struct.fields) ps c.in-Struct.is h)

pub returns-in-None-split_first-4-clause-step : goal.returns-in-None-split_first-4-clause-step
returns-in-None-split_first-4-clause-step c = λ rows ps h.
    c.in-None-split_first-4.ensures.step rows ps (left_as rows c.args.self.now (P.Texts c.in-Texts.entries) ps c.in-Texts.is h)

pub returns-in-Some-split_first-5-clause-step : goal.returns-in-Some-split_first-5-clause-step
returns-in-Some-split_first-5-clause-step c = λ rows ps h.
    let x = c.in-Some-split_first-5.ensures.step rows ps (left_as rows c.args.self.now (P.Pairs c.in-Pairs.entries) ps c.in-Pairs.is h) in
    takes_off rows ps x.0 c.in-Some-split_first-5.part (P.Pairs c.in-Some-split_first-5.behind) x.1 x.2

pub returns-in-Some-split_first-5-clause-ready : goal.returns-in-Some-split_first-5-clause-ready
returns-in-Some-split_first-5-clause-ready c = λ rows all.
    let own = subst (AreReady rows) c.in-Pairs.is all in
    let x = c.in-Some-split_first-5.ensures.ready rows own.0 own.1 in
    (x.0, (x.1, x.2))

pub returns-in-None-split_first-5-clause-step : goal.returns-in-None-split_first-5-clause-step
returns-in-None-split_first-5-clause-step c = λ rows ps h.
    c.in-None-split_first-5.ensures.step rows ps (left_as rows c.args.self.now (P.Pairs c.in-Pairs.entries) ps c.in-Pairs.is h)

pub returns-in-Some-clause-way : goal.returns-in-Some-clause-way
returns-in-Some-clause-way c = λ rows ps h.
    leads_as rows c.args.self.now (P.List c.in-List.elements) (Some c.in-Some.part) ps c.in-List.is (c.in-Some.ensures.way ps (left_as rows c.args.self.now (P.List c.in-List.elements) ps c.in-List.is h))

pub returns-in-Some-split_first-clause-way : goal.returns-in-Some-split_first-clause-way
returns-in-Some-split_first-clause-way c = λ rows ps h.
    leads_as rows c.args.self.now (P.Map c.in-Map.entries) (Some c.in-Some-split_first.part) ps c.in-Map.is (c.in-Some-split_first.ensures.way ps (left_as rows c.args.self.now (P.Map c.in-Map.entries) ps c.in-Map.is h))

pub returns-in-Some-split_first-2-clause-way : goal.returns-in-Some-split_first-2-clause-way
returns-in-Some-split_first-2-clause-way c = λ rows ps h.
    leads_as rows c.args.self.now (P.Root c.in-Root.entries) c.in-Some-split_first-2.part ps c.in-Root.is (c.in-Some-split_first-2.ensures.way ps (left_as rows c.args.self.now (P.Root c.in-Root.entries) ps c.in-Root.is h))

pub returns-in-Some-split_first-4-clause-way : goal.returns-in-Some-split_first-4-clause-way
returns-in-Some-split_first-4-clause-way c = λ rows ps h.
    leads_as rows c.args.self.now (P.Texts c.in-Texts.entries) (Some c.in-Some-split_first-4.part) ps c.in-Texts.is (c.in-Some-split_first-4.ensures.way ps (left_as rows c.args.self.now (P.Texts c.in-Texts.entries) ps c.in-Texts.is h))

pub returns-in-Some-split_first-5-clause-way : goal.returns-in-Some-split_first-5-clause-way
returns-in-Some-split_first-5-clause-way c = λ rows ps h.
    leads_as rows c.args.self.now (P.Pairs c.in-Pairs.entries) (Some c.in-Some-split_first-5.part) ps c.in-Pairs.is (c.in-Some-split_first-5.ensures.way ps (left_as rows c.args.self.now (P.Pairs c.in-Pairs.entries) ps c.in-Pairs.is h))

pub returns-in-Member-clause-way : goal.returns-in-Member-clause-way
returns-in-Member-clause-way c = λ rows ps h.
    leads_as rows c.args.self.now (P.Member c.in-Member.part) (Some c.in-Member.part) ps c.in-Member.is (left_as rows c.args.self.now (P.Member c.in-Member.part) ps c.in-Member.is h).1

pub returns-in-Some-split_first-3-clause-way : goal.returns-in-Some-split_first-3-clause-way
returns-in-Some-split_first-3-clause-way c = λ rows ps h. leads_as rows c.args.self.now (P.Struct c.in-Struct.fields) c.in-Some-split_first-3.part ps c.in-Struct.is
    (c.in-Some-split_first-3.ensures.way rows ps (left_as rows c.args.self.now (P.Struct c.in-Struct.fields) ps c.in-Struct.is h))

pub returns-in-Some-clause-inside : goal.returns-in-Some-clause-inside
returns-in-Some-clause-inside c = λ rows ty y h.
    let none = subst (AreInside rows ty y) c.in-List.is h in
    (whole_piece rows ty y none c.in-Some.part c.in-Some.ensures.whole, none)

pub returns-in-Some-split_first-clause-inside : goal.returns-in-Some-split_first-clause-inside
returns-in-Some-split_first-clause-inside c = λ rows ty y h.
    let none = subst (AreInside rows ty y) c.in-Map.is h in
    (whole_piece rows ty y none c.in-Some-split_first.part c.in-Some-split_first.ensures.whole, none)

pub returns-in-Some-split_first-4-clause-inside : goal.returns-in-Some-split_first-4-clause-inside
returns-in-Some-split_first-4-clause-inside c = λ rows ty y h.
    let none = subst (AreInside rows ty y) c.in-Texts.is h in
    (whole_piece rows ty y none c.in-Some-split_first-4.part c.in-Some-split_first-4.ensures.whole, none)

pub returns-in-Some-split_first-5-clause-inside : goal.returns-in-Some-split_first-5-clause-inside
returns-in-Some-split_first-5-clause-inside c = λ rows ty y h.
    let none = subst (AreInside rows ty y) c.in-Pairs.is h in
    (whole_piece rows ty y none c.in-Some-split_first-5.part c.in-Some-split_first-5.ensures.whole, none)

pub returns-in-Some-split_first-2-clause-inside : goal.returns-in-Some-split_first-2-clause-inside
returns-in-Some-split_first-2-clause-inside c = λ rows ty y h.
    let none = subst (AreInside rows ty y) c.in-Root.is h in
    (whole_pieces rows ty y none c.in-Some-split_first-2.part c.in-Some-split_first-2.ensures.whole, none)

pub returns-in-Some-split_first-3-clause-inside : goal.returns-in-Some-split_first-3-clause-inside
returns-in-Some-split_first-3-clause-inside c = λ rows ty y h.
    let none = subst (AreInside rows ty y) c.in-Struct.is h in
    (whole_pieces rows ty y none c.in-Some-split_first-3.part c.in-Some-split_first-3.ensures.whole, none)

pub returns-in-Member-clause-inside : goal.returns-in-Member-clause-inside
returns-in-Member-clause-inside c = λ rows ty y h. (subst (AreInside rows ty y) c.in-Member.is h, tt)
