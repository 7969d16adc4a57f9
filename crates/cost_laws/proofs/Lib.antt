pub mod BlockPlan
pub mod ThreeAbsorbed
pub mod ContractBest
