-- What stands behind demand 3, each statement of Demands from the crate that proves it.
-- Assumes nothing.
use Rattle.std.specs.Prelude.{ℕ, ◌<◌, ◌≤◌}
use Rattle.rules.specs.Options.{asked}
use Rattle.rules.specs.Objective.{Objective}
use Rattle.rules.specs.Graph.{Graph}
use Rattle.rules.specs.Eliminate.{eliminate, tee}
use Rattle.rules.specs.DegreeThree.{eliminate3}
use Rattle.rules.specs.Fixing.{start}
use Rattle.rules.specs.Run.{begin, ended}
use Rattle.rules.specs.Size.{Within}
use Rattle.accepted_laws.specs.Accept.{Fit}
use Rattle.cost_laws.specs.CostLaws.{Shaped, base_cost, lin_cost, edge_cost, drop_cost}
use Rattle.cost_laws.specs.Growth.{neighbours_apart}
use Rattle.cost_laws.specs.ReduceLaws.{Absorbed, choice_at, absorbed_reduces, eliminate_absorbed, absorbed_never_more}
use Rattle.cost_laws.specs.DegreeThreeLaws.{triple_of}
use Rattle.cost_laws.proofs.ThreeAbsorbed.{three_absorbed}
use Rattle.cost_laws.specs.DominantLaws.{contract_reduces}
use Rattle.cost_laws.proofs.ContractBest.{contract_never_more}
use Rattle.cost_laws.specs.BlockCost.{pair_of}
use Rattle.cost_laws.specs.Found.{found_least}
use Rattle.cost_laws.proofs.BlockPlan.{found_plan}
use Rattle.objective_laws.specs.FixLaws.{set_at, reduced_plan, fix_cost}
use Rattle.objective_laws.proofs.Theorems.{graph_cost, start_cost}
use Rattle.sound_laws.specs.SoundRun.{begin_sound}
use Rattle.sound_laws.proofs.SoundRun.{run_sound}
use Rattle.sound_laws.specs.SoundStart.{start_stands}
use Rattle.size_laws.proofs.RunWithin.{run_within}
use Rattle.size_laws.proofs.PassSizes.{moebius_size}
use Rattle.size_laws.specs.SumSizes.{delta_three, tee_three, gains_three, low_size, high_size, upper_size, lower_size, taken_size, inner_size, gains_block}
use Rattle.size_laws.proofs.PassSizes.{first_pass, second_pass}
use Rattle.run_laws.specs.DueLaws.{complete_over, ended_units, ended_cut}
use Rattle.run_laws.proofs.RunEnds.{ended_few, ended_complete}
use Rattle.run_laws.proofs.InOrderLaws.{run_in_order, in_order_room}
use Rattle.run_laws.specs.FuelLaws.{graph_turns}
use Rattle.run_laws.proofs.WaitingLaws.{never_inactive}
use Rattle.demand_laws.specs.Demands.{run_of, SizeRule, SumBounds, Units, Built, Updates, Reduction-of, Reductions, RunSound}

-- ---- of every objective that is not refused
module _ (o : Objective) (fit : Fit o) where
  pub built : Built o
  built = record { whole = graph_cost o fit; fixed = start_cost o fit }

  pub run_is_sound : RunSound o
  run_is_sound b = run_sound (start o) b (asked o) (begin (asked o) (start o)) (begin_sound (start o) (asked o) (start_stands o fit).fine)

  pub size_rule : SizeRule o
  size_rule = run_within o fit

  pub units_are : Units o
  unfolding ended
  units_are = record {
    most = ended_units o;
    cut = ended_cut o;
    over = complete_over o.budget (asked o) (begin (asked o) (start o));
    few = ended_few o fit;
    enough = ended_complete o fit;
    waiting = λ b. let r = in_order_room (start o) (run_in_order (start o) b (asked o) (start_stands o fit).fine) in (r.queue, r.waiting);
    active_waits = never_inactive o fit;
    turns = λ b aside s more l m. graph_turns (run_of o b).graph (run_is_sound b).stands.fine aside s more l m;
  }

-- ---- of every graph within the size rule
pub sums_are : (g : Graph) → g.n ≤ 64 → Within g → SumBounds g
sums_are g few w = record {
  deltas = λ i m d. delta_three g w i d m;
  tees = λ i m d. tee_three g w i d m;
  gains = λ i m k d. (gains_three g w i d).near m k;
  pair_parts = λ i d. (gains_three g w i d).part;
  pairs = λ i d. (gains_three g w i d).pair;
  first_passes = λ i m d. first_pass g w i d m;
  second_passes = λ i m d. second_pass g w i d m;
  entries = λ i m d. moebius_size (tee g i) (tee_three g w i d) m;
  lows = low_size g w few;
  highs = high_size g w few;
  uppers = upper_size g w few;
  lowers = lower_size g w few;
  taken = taken_size g w;
  inside = inner_size g w;
  block_gains = λ b m k ho hi. (gains_block g w b ho hi).near m k;
  block_pair_parts = λ b ho hi. (gains_block g w b ho hi).part;
  block_pairs = λ b ho hi. (gains_block g w b ho hi).pair;
}

-- ---- of every graph whose edges are the same both ways round, none with itself
module _ (g : Graph) (s : Shaped g) where
  pub updates : Updates g
  updates = record {
    constant = base_cost g;
    linear = λ x k v l. lin_cost g x k v s l;
    edges = λ x k l v lk ll d. edge_cost g k l v s lk ll d x;
    dropped = λ x t i l. drop_cost g x t i s l;
  }

  absorbed : (g' : Graph) (i : ℕ) → i < g.n → Absorbed i g g' → Reduction-of g g' (λ x. set_at i (choice_at g i x) x)
  absorbed g' i l a = record { exact = reduced_plan g i s l (absorbed_reduces g g' i s l a); never = absorbed_never_more g g' i s l a }

  pub reductions : Reductions g
  reductions = record {
    fixes = λ i v l h. fix_cost i v g s l h;
    eliminates = λ i l d. absorbed (eliminate i g) i l (eliminate_absorbed g i s l (pair_of (neighbours_apart g i) d));
    eliminates_three = λ i l d c. absorbed (eliminate3 i g) i l (three_absorbed g i s l (triple_of (neighbours_apart g i) d) c);
    contracts = λ i j l m h. record { exact = reduced_plan g i s l (contract_reduces g i j s l m); never = contract_never_more g i j s l m h };
    blocks = λ b e. record { exact = found_plan g b s e; never = found_least g b s e };
  }
