mod BookFacts
mod ColumnFacts
mod FoldFacts
pub mod GridFacts
mod RowFacts
mod RunFacts
mod NameFacts
mod RecordFacts
mod SpectrumFacts
mod SumFacts
pub mod SpectrumLaws
