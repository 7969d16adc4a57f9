use Rattle.std.proofs.Common.{◌≡◌, true, false, ◌<◌, ◌≤◌, ℕ, List, [], ◌∷◌, ◌++◌, length, sym, ap, ◌∙◌, subst, arith, append-nil, append_assoc, length-append, length-set, bit_or}
use Rattle.std.proofs.lemmas.Nat.{or_lt}
use Rattle.whole.specs.Words.{mem, bit}
use Rattle.whole.specs.Masks.{these}
use Rattle.whole.specs.Walks.{item_below}
use Rattle.whole.specs.Pigeon.{Apart, pigeon}
use Rattle.queue.specs.Waiting.{Waiting}
use Rattle.queue.specs.Items.{items, QueueKept}
use Rattle.queue.specs.declared.Queue.TheInside.{Inside}
use Rattle.queue.specs.ItemsLaws.{ring_more, ring_length, joined_apart, shown_more}
use Rattle.queue.proofs.Queue.push_all.Goals as goal
use Rattle.queue.proofs.Queue.push_all.Goals.{In-Some, In-None}

-- those that wait and those that join are different ones
apart : (q : Inside) (v : Waiting) (new : ℕ) → QueueKept q → items q ≡ v.who → ((k : ℕ) → mem k (these new) ≡ true → mem k v.who ≡ false) → Apart 64 (items q ++ these new)
apart q v new p e h = joined_apart q new p (λ k m. ap (mem k) e ∙ h k m)

-- so there is room for one more
room : (c : In-Some) → c.loop-d.next-inside.len < 64
room c =
    let q = c.loop-d.next-inside in
    let all : length (items c.next.inside ++ these c.args.new) ≤ 64 = pigeon 64 (apart c.next.inside c.args.self c.args.new c.next.invariant.kept (ap (λ (w : Waiting). w.who) c.next.view_is) c.requires) in
    omega (arith, ap length c.loop-d.invariant.joined, length-append (items q) (these c.loop-d.d-iterator.0), ring_length q.places q.head q.len, ap length c.in-Some.ensures.steps)

head : (c : In-Some) → c.loop-d.next-inside.head < 64
head c = omega (arith, c.loop-d.invariant.head, c.next.invariant.kept.head)

pub overflow_add-at : goal.overflow_add-at
overflow_add-at c = omega (arith, room c, head c)

pub overflow_cast-next : goal.overflow_cast-next
overflow_cast-next c = omega (arith, item_below _ _ _ c.in-Some.ensures.steps)

pub overflow_add-next : goal.overflow_add-next
overflow_add-next c = omega (arith, room c)

pub loop-d-preserved : goal.loop-d-preserved
loop-d-preserved c =
    let l = c.loop-d in
    let q = l.next-inside in
    let d = c.in-Some.d in
    let m : List ℕ = these c.next-in-loop-d.new.self.0 in
    record {
      can = tt;
      ends = tt;
      head = l.invariant.head;
      waiting = l.invariant.waiting;
      long = length-set q.places _ d ∙ l.invariant.long;
      joined =
          ap (λ (xs : List ℕ). xs ++ m) (ring_more q.len q.places q.head d l.invariant.long (room c))
          ∙ append_assoc (items q) (d ∷ []) m ∙ ap (λ (xs : List ℕ). items q ++ xs) (sym c.in-Some.ensures.steps) ∙ l.invariant.joined;
    }

-- nobody is left to join
all : (c : In-None) → items c.loop-d.next-inside ≡ items c.next.inside ++ these c.args.new
all c = sym (append-nil (items c.loop-d.next-inside)) ∙ ap (λ (xs : List ℕ). items c.loop-d.next-inside ++ xs) (sym c.in-None.ensures.steps.0) ∙ c.loop-d.invariant.joined

pub invariant_of-next : goal.invariant_of-next
invariant_of-next c =
    let q = c.next.inside in
    let p = c.next.invariant.kept in
    let seen = ap (λ (w : Waiting). w.who) c.next.view_is in
    record {
      kept = record {
        long = c.loop-d.invariant.long;
        head = omega (arith, c.loop-d.invariant.head, p.head);
        apart = subst (Apart 64) (sym (all c)) (apart q c.args.self c.args.new p seen c.requires);
        shown = λ k b. ap (λ (w : ℕ). bit (bit_or w c.args.new) k) c.loop-d.invariant.waiting ∙ shown_more q.waiting c.args.new (items q) p.shown k b ∙ ap (mem k) (sym (all c));
      };
      mask = or_lt 64 c.loop-d.next-inside.waiting c.args.new (omega (arith, c.loop-d.invariant.waiting, c.next.invariant.mask)) c.ranges.new.fits;
    }

pub returns : goal.returns
returns c = all c ∙ ap (λ (w : Waiting). w.who ++ these c.args.new) c.next.view_is
