pub mod AtomSteps
