pub mod CostLaws
mod GridFacts
mod LimitLaws
mod SumFacts
mod WordFacts
