use Rattle.std.proofs.Common.{ap, arith, rules, length, take, length-take, length-append, SFits, w64}
use Rattle.whole.specs.Ints.{rd}
use Rattle.rules.specs.Record.{states_of}
use Rattle.decimal.specs.Puts.{Put, ◌and◌, page_front}
use Rattle.write_text.specs.Outcomes.{opening}
use Rattle.write_text.specs.WriteLaws.{closing_length}
use Rattle.write_text.specs.OutcomeLaws.{remaining_in, Enough, fair_room, parts_in}
use Rattle.write_text.proofs.put_result.Goals.{Start, After-put_opening}
use Rattle.write_text.proofs.put_result.Goals as goal

-- what is written first
opened : (c : After-put_opening) → Put c.new-page.result (opening c.args.reduction.«record».constant (remaining_in c.args.reduction) (take (length (remaining_in c.args.reduction)) c.args.linear.now)) c.put_opening.new.page
unfolding states_of
opened c = let f : SFits w64 c.args.reduction.«record».constant = search rules in rw (rd f) at c.put_opening.ensures

room_in : (c : Start) → Enough c.args.reduction c.args.linear.now c.args.edges.now
room_in c = fair_room c.args.reduction c.args.linear.now c.args.edges.now c.requires.1

pub put_opening-requires : goal.put_opening-requires
unfolding states_of
put_opening-requires c =
    let r = c.args.reduction in
    let f : SFits w64 r.«record».constant = search rules in
    rw (rd f) (omega (arith, room_in (goal.at.put_opening-requires c).Start, c.requires.0, ap length c.new-page.ensures.bytes, c.new-page.ensures.start), omega (arith, length-take r.«record».n r.«record».states, c.requires.1.decisions), c.requires.1.weights)

pub put_edges-requires : goal.put_edges-requires
put_edges-requires c =
    let o = (opened (goal.at.put_edges-requires c).After-put_opening).wrote in
    (omega (arith, room_in (goal.at.put_edges-requires c).Start, c.requires.0, ap length c.new-page.ensures.bytes, c.new-page.ensures.start, o.place, o.long), c.requires.1.cells)

pub put_steps-requires : goal.put_steps-requires
put_steps-requires c =
    let o = (opened (goal.at.put_steps-requires c).After-put_opening).wrote in
    (c.requires.1.count, c.requires.1.short, omega (arith, room_in (goal.at.put_steps-requires c).Start, c.requires.0, ap length c.new-page.ensures.bytes, c.new-page.ensures.start, o.place, o.long, c.put_edges.ensures.wrote.place, c.put_edges.ensures.wrote.long))

pub put_closing-requires : goal.put_closing-requires
put_closing-requires c =
    let r = c.args.reduction in
    let o = (opened (goal.at.put_closing-requires c).After-put_opening).wrote in
    omega (arith, room_in (goal.at.put_closing-requires c).Start, c.requires.0, ap length c.new-page.ensures.bytes, c.new-page.ensures.start, o.place, o.long, c.put_edges.ensures.wrote.place, c.put_edges.ensures.wrote.long, c.put_steps.ensures.wrote.place, c.put_steps.ensures.wrote.long, closing_length r.units r.complete)

pub returns : goal.returns
returns c =
    let a = c.args in
    let w = opened (goal.at.returns c).After-put_opening and c.put_edges.ensures and c.put_steps.ensures and c.put_closing.ensures in
    rw (parts_in a.reduction a.linear.now a.edges.now) (page_front w c.new-page.ensures.bytes c.new-page.ensures.start (grind arith) (simp length-append (omega (arith, room_in (goal.at.returns c).Start, c.requires.0))))
