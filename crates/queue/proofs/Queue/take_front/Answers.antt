use Rattle.std.proofs.Common.{◌<◌, ℕ, sym, ap, ◌∙◌, arith}
use Rattle.whole.specs.Words.{mem, bit}
use Rattle.whole.specs.Members.{apart_head, apart_tail}
use Rattle.queue.specs.Waiting.{Waiting}
use Rattle.queue.specs.Items.{ring_from}
use Rattle.queue.specs.ItemsLaws.{front, others, parts, front_apart, shown_less}
use Rattle.queue.proofs.Queue.take_front.Goals as goal

pub returns-then-self-eq0 : goal.returns-then-self-eq0
unfolding ring_from
returns-then-self-eq0 c = sym (ap (λ (w : Waiting). w.who) c.self.view_is) ∙ ap (ring_from c.self.inside.places c.self.inside.head) c.if-self-eq0.true

pub overflow_shl-one : goal.overflow_shl-one
overflow_shl-one c = apart_head (front_apart c.self.inside c.self.invariant.kept (omega arith))

pub invariant_of-next : goal.invariant_of-next
invariant_of-next c =
    let q = c.self.inside in
    let p = c.self.invariant.kept in
    let some : 0 < q.len = omega arith in
    let whole = front_apart q p some in
    let is = parts q p some in
    record {
      kept = record {
        long = p.long;
        head = omega arith;
        apart = apart_tail whole;
        shown = λ k l. ap (λ (m : ℕ). bit m k) c.without.ensures ∙ shown_less q.waiting (others q p some) (front q p some) (apart_head whole) whole (λ k b. p.shown k b ∙ ap (mem k) is) k l;
      };
      mask = c.without.type_inv;
    }

pub returns : goal.returns
returns c =
    let q = c.self.inside in
    let some : 0 < q.len = omega arith in
    (sym (ap (λ (w : Waiting). w.who) c.self.view_is) ∙ parts q c.self.invariant.kept some, apart_head (front_apart q c.self.invariant.kept some))
