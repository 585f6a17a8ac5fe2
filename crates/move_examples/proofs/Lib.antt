pub mod StitchedExamples
