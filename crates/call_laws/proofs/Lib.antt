pub mod DemandThree
